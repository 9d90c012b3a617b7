use Rattle.std.proofs.Common.{Ok, Err, ◌+◌, drop, subst, arith}
use Rattle.std.proofs.lemmas.Result.{err_from_is_err_and}
use Rattle.eir_print.specs.Printed.{text_of, start_lines, block_lines, blocks_lines}
use Rattle.mach_core.specs.Puts.{Outlet, Puts}
use Rattle.mach_core.proofs.Ahead.{Ahead, ahead_more, ahead_stops, ahead_last}
use Rattle.eir_print.proofs.Texts.{blocks_next, blocks_end}
use Rattle.eir_print.proofs.print.put_blocks.Goals as goal

pub returns-in_err-put_block : goal.returns-in_err-put_block
returns-in_err-put_block g c =
    let old : Outlet = record { got = g.O.Sink.got c.args.out.now; faults = g.O.Sink.faults c.args.out.now; held = c.args.put.now } in
    let here : Outlet = record { got = g.O.Sink.got c.loop-k.out; faults = g.O.Sink.faults c.loop-k.out; held = c.loop-k.put } in
    let new : Outlet = record { got = g.O.Sink.got c.put_block.new.out; faults = g.O.Sink.faults c.put_block.new.out; held = c.put_block.new.put } in
    let start = c.args.p.now.start in
    let blocks = c.args.p.now.blocks in
    let k = c.loop-k.k in
    let ops = c.in-Some.ops.now in
    let all = text_of (blocks_lines start 0 blocks) in
    let left = subst (λ bs. Ahead old here all bs) (blocks_next start k blocks ops c.in-Some.ensures.ops) c.loop-k.invariant in
    ahead_stops old here new all (text_of (block_lines start k ops)) (text_of (blocks_lines start (k + 1) (drop (k + 1) blocks))) c.in_err-put_block.field-0.0 c.from_residual.result (err_from_is_err_and c.from_residual.result c.from_residual.ensures.1) left (subst (λ s. Puts here new (text_of (block_lines s k ops)) (Err c.in_err-put_block.field-0.0)) c.start.ensures c.in_err-put_block.ensures)

pub loop-k-preserved : goal.loop-k-preserved
loop-k-preserved g c =
    let old : Outlet = record { got = g.O.Sink.got c.args.out.now; faults = g.O.Sink.faults c.args.out.now; held = c.args.put.now } in
    let here : Outlet = record { got = g.O.Sink.got c.loop-k.out; faults = g.O.Sink.faults c.loop-k.out; held = c.loop-k.put } in
    let new : Outlet = record { got = g.O.Sink.got c.put_block.new.out; faults = g.O.Sink.faults c.put_block.new.out; held = c.put_block.new.put } in
    let start = c.args.p.now.start in
    let blocks = c.args.p.now.blocks in
    let k = c.loop-k.k in
    let ops = c.in-Some.ops.now in
    let all = text_of (blocks_lines start 0 blocks) in
    let left = subst (λ bs. Ahead old here all bs) (blocks_next start k blocks ops c.in-Some.ensures.ops) c.loop-k.invariant in
    ahead_more old here new all (text_of (block_lines start k ops)) (text_of (blocks_lines start (k + 1) (drop (k + 1) blocks))) tt left (subst (λ s. Puts here new (text_of (block_lines s k ops)) (Ok tt)) c.start.ensures c.in_ok-put_block.ensures)

pub returns : goal.returns
returns g c =
    let old : Outlet = record { got = g.O.Sink.got c.args.out.now; faults = g.O.Sink.faults c.args.out.now; held = c.args.put.now } in
    let here : Outlet = record { got = g.O.Sink.got c.loop-k.out; faults = g.O.Sink.faults c.loop-k.out; held = c.loop-k.put } in
    let new : Outlet = record { got = g.O.Sink.got c.put_start.new.out; faults = g.O.Sink.faults c.put_start.new.out; held = c.put_start.new.put } in
    let start = c.args.p.now.start in
    let blocks = c.args.p.now.blocks in
    let all = text_of (blocks_lines start 0 blocks) in
    let count = c.block_count-count.result in
    let left = subst (λ bs. Ahead old here all bs) (blocks_end start c.loop-k.k count blocks c.block_count-count.ensures.count (omega arith)) c.loop-k.invariant in
    ahead_last old here new all (text_of (start_lines start count)) c.put_start.result left (subst (λ s. Puts here new (text_of (start_lines s count)) c.put_start.result) c.start-2.ensures c.put_start.ensures)
