use Rattle.std.proofs.Common.{◌≡◌, ◌+◌, Ok, Err, drop, length, sym, ap, ◌∙◌, subst, arith}
use Rattle.std.proofs.lemmas.Result.{err_from_is_err_and}
use Rattle.sq_back.specs.Code.{ops_cells, ops_lines, blocks_cells, blocks_start, blocks_lines}
use Rattle.sq_back.specs.Text.{lines_text}
use Rattle.mach_core.specs.Puts.{Outlet, Puts}
use Rattle.mach_core.proofs.Ahead.{Ahead, ahead_start, ahead_more, ahead_stops, ahead_done}
use Rattle.mach_core.proofs.Lists.{drop_none}
use Rattle.sq_back.proofs.Texts.{blocks_next, blocks_done}
use Rattle.sq_back.proofs.Sizes.{memory_start-few, cells_next}
use Rattle.sq_back.proofs.image.put_blocks.Goals as goal

pub loop-k-init : goal.loop-k-init
loop-k-init g c =
    let old : Outlet = record { got = g.O.Sink.got c.args.out.now; faults = g.O.Sink.faults c.args.out.now; held = c.args.put.now } in
    let p = c.args.p.now in
    let n = length p.blocks in
    let all = lines_text (blocks_lines n 0 (blocks_start p) p.blocks) in
    let at = c.blocks_start-at.result in
    let whole : all ≡ lines_text (blocks_lines n 0 at (drop 0 p.blocks)) =
    ap (λ m. lines_text (blocks_lines n 0 m p.blocks)) (sym c.blocks_start-at.ensures) ∙ ap (λ bs. lines_text (blocks_lines n 0 at bs)) (sym (drop_none p.blocks)) in
    record {
      ahead = subst (λ bs. Ahead old old all bs) whole (ahead_start old all);
      room = omega (arith, memory_start-few p c.requires, ap blocks_cells (drop_none p.blocks), c.blocks_start-at.ensures);
    }

pub put_ops-requires-clause-room : goal.put_ops-requires-clause-room
put_ops-requires-clause-room g c =
    let next = cells_next c.args.p.now.blocks c.loop-k.k c.in-Some.ops.now c.in-Some.ensures.ops in
    omega (arith, next, c.loop-k.invariant.room)

pub returns-in_err-put_ops : goal.returns-in_err-put_ops
returns-in_err-put_ops g c =
    let old : Outlet = record { got = g.O.Sink.got c.args.out.now; faults = g.O.Sink.faults c.args.out.now; held = c.args.put.now } in
    let here : Outlet = record { got = g.O.Sink.got c.loop-k.out; faults = g.O.Sink.faults c.loop-k.out; held = c.loop-k.put } in
    let new : Outlet = record { got = g.O.Sink.got c.put_ops.new.out; faults = g.O.Sink.faults c.put_ops.new.out; held = c.put_ops.new.put } in
    let blocks = c.args.p.now.blocks in
    let n = length blocks in
    let ops = c.in-Some.ops.now in
    let k = c.loop-k.k in
    let at = c.loop-k.at in
    let all = lines_text (blocks_lines n 0 (blocks_start c.args.p.now) blocks) in
    let piece = lines_text (ops_lines n (k + 1) at ops) in
    let rest = lines_text (blocks_lines n (k + 1) (at + ops_cells ops) (drop (k + 1) blocks)) in
    let left = subst (λ bs. Ahead old here all bs) (blocks_next n k at blocks ops c.in-Some.ensures.ops) c.loop-k.invariant.ahead in
    ahead_stops old here new all piece rest c.in_err-put_ops.field-0.0 c.from_residual.result (err_from_is_err_and c.from_residual.result c.from_residual.ensures.1) left
    (subst (λ m. Puts here new (lines_text (ops_lines m (k + 1) at ops)) (Err c.in_err-put_ops.field-0.0)) c.block_count-count.ensures.count c.in_err-put_ops.ensures)

pub overflow_add-at : goal.overflow_add-at
overflow_add-at g c =
    let next = cells_next c.args.p.now.blocks c.loop-k.k c.in-Some.ops.now c.in-Some.ensures.ops in
    omega (arith, next, c.loop-k.invariant.room, c.ops_cells-at.ensures)

pub loop-k-preserved : goal.loop-k-preserved
loop-k-preserved g c =
    let old : Outlet = record { got = g.O.Sink.got c.args.out.now; faults = g.O.Sink.faults c.args.out.now; held = c.args.put.now } in
    let here : Outlet = record { got = g.O.Sink.got c.loop-k.out; faults = g.O.Sink.faults c.loop-k.out; held = c.loop-k.put } in
    let new : Outlet = record { got = g.O.Sink.got c.put_ops.new.out; faults = g.O.Sink.faults c.put_ops.new.out; held = c.put_ops.new.put } in
    let blocks = c.args.p.now.blocks in
    let n = length blocks in
    let ops = c.in-Some.ops.now in
    let k = c.loop-k.k in
    let at = c.loop-k.at in
    let all = lines_text (blocks_lines n 0 (blocks_start c.args.p.now) blocks) in
    let piece = lines_text (ops_lines n (k + 1) at ops) in
    let rest = lines_text (blocks_lines n (k + 1) (at + ops_cells ops) (drop (k + 1) blocks)) in
    let left = subst (λ bs. Ahead old here all bs) (blocks_next n k at blocks ops c.in-Some.ensures.ops) c.loop-k.invariant.ahead in
    let next = cells_next blocks k ops c.in-Some.ensures.ops in
    record {
      ahead = subst (λ m. Ahead old new all (lines_text (blocks_lines n (k + 1) (at + m) (drop (k + 1) blocks)))) (sym c.ops_cells-at.ensures)
          (ahead_more old here new all piece rest tt left (subst (λ m. Puts here new (lines_text (ops_lines m (k + 1) at ops)) (Ok tt)) c.block_count-count.ensures.count c.in_ok-put_ops.ensures));
      room = omega (arith, next, c.loop-k.invariant.room, c.ops_cells-at.ensures);
    }

pub returns : goal.returns
returns g c =
    let old : Outlet = record { got = g.O.Sink.got c.args.out.now; faults = g.O.Sink.faults c.args.out.now; held = c.args.put.now } in
    let here : Outlet = record { got = g.O.Sink.got c.loop-k.out; faults = g.O.Sink.faults c.loop-k.out; held = c.loop-k.put } in
    let p = c.args.p.now in
    let n = length p.blocks in
    let all = lines_text (blocks_lines n 0 (blocks_start p) p.blocks) in
    ahead_done old here all tt (subst (λ bs. Ahead old here all bs) (blocks_done n c.loop-k.k c.loop-k.at p.blocks (omega (arith, c.block_count-count.ensures.count))) c.loop-k.invariant.ahead)
