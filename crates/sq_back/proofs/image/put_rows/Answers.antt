use Rattle.std.proofs.Common.{◌≡◌, ◌+◌, Ok, Err, pos, drop, sym, ap, ◌∙◌, subst, arith, rules}
use Rattle.std.proofs.lemmas.Result.{err_from_is_err_and}
use Rattle.sq_back.specs.Code.{go, ops_cells, blocks_cells, blocks_start, rows_lines}
use Rattle.sq_back.specs.Text.{line_text, lines_text}
use Rattle.mach_core.specs.Puts.{Outlet, Puts}
use Rattle.mach_core.proofs.Ahead.{Ahead, ahead_start, ahead_more, ahead_stops, ahead_done}
use Rattle.mach_core.proofs.Lists.{drop_none}
use Rattle.sq_back.proofs.Texts.{rows_next, rows_done}
use Rattle.sq_back.proofs.Sizes.{memory_start-few, cells_next}
use Rattle.sq_back.proofs.image.put_rows.Goals as goal

pub loop-k-init : goal.loop-k-init
loop-k-init g c =
    let old : Outlet = record { got = g.O.Sink.got c.args.out.now; faults = g.O.Sink.faults c.args.out.now; held = c.args.put.now } in
    let p = c.args.p.now in
    let all = lines_text (rows_lines (blocks_start p) p.blocks) in
    let at = c.blocks_start-at.result in
    let whole : all ≡ lines_text (rows_lines at (drop 0 p.blocks)) =
    ap (λ n. lines_text (rows_lines n p.blocks)) (sym c.blocks_start-at.ensures) ∙ ap (λ bs. lines_text (rows_lines at bs)) (sym (drop_none p.blocks)) in
    record {
      ahead = subst (λ bs. Ahead old old all bs) whole (ahead_start old all);
      room = omega (arith, memory_start-few p c.requires, ap blocks_cells (drop_none p.blocks), c.blocks_start-at.ensures);
    }

pub returns-in_err-put_line : goal.returns-in_err-put_line
returns-in_err-put_line g c =
    let old : Outlet = record { got = g.O.Sink.got c.args.out.now; faults = g.O.Sink.faults c.args.out.now; held = c.args.put.now } in
    let here : Outlet = record { got = g.O.Sink.got c.loop-k.out; faults = g.O.Sink.faults c.loop-k.out; held = c.loop-k.put } in
    let new : Outlet = record { got = g.O.Sink.got c.put_line.new.out; faults = g.O.Sink.faults c.put_line.new.out; held = c.put_line.new.put } in
    let blocks = c.args.p.now.blocks in
    let ops = c.in-Some.ops.now in
    let k = c.loop-k.k in
    let at = c.loop-k.at in
    let all = lines_text (rows_lines (blocks_start c.args.p.now) blocks) in
    let piece = line_text (go (pos (at + 3))) in
    let rest = lines_text (rows_lines (at + ops_cells ops) (drop (k + 1) blocks)) in
    let left = subst (λ bs. Ahead old here all bs) (rows_next k at blocks ops c.in-Some.ensures.ops) c.loop-k.invariant.ahead in
    let line : c.go.result ≡ go (pos (at + 3)) = search rules in
    ahead_stops old here new all piece rest c.in_err-put_line.field-0.0 c.from_residual.result (err_from_is_err_and c.from_residual.result c.from_residual.ensures.1) left
    (subst (λ l. Puts here new (line_text l) (Err c.in_err-put_line.field-0.0)) line c.in_err-put_line.ensures)

pub overflow_add-at-in-loop-k : goal.overflow_add-at-in-loop-k
overflow_add-at-in-loop-k g c =
    let next = cells_next c.args.p.now.blocks c.loop-k.k c.in-Some.ops.now c.in-Some.ensures.ops in
    omega (arith, next, c.loop-k.invariant.room, c.ops_cells-at.ensures)

pub loop-k-preserved : goal.loop-k-preserved
loop-k-preserved g c =
    let old : Outlet = record { got = g.O.Sink.got c.args.out.now; faults = g.O.Sink.faults c.args.out.now; held = c.args.put.now } in
    let here : Outlet = record { got = g.O.Sink.got c.loop-k.out; faults = g.O.Sink.faults c.loop-k.out; held = c.loop-k.put } in
    let new : Outlet = record { got = g.O.Sink.got c.put_line.new.out; faults = g.O.Sink.faults c.put_line.new.out; held = c.put_line.new.put } in
    let blocks = c.args.p.now.blocks in
    let ops = c.in-Some.ops.now in
    let k = c.loop-k.k in
    let at = c.loop-k.at in
    let all = lines_text (rows_lines (blocks_start c.args.p.now) blocks) in
    let piece = line_text (go (pos (at + 3))) in
    let rest = lines_text (rows_lines (at + ops_cells ops) (drop (k + 1) blocks)) in
    let left = subst (λ bs. Ahead old here all bs) (rows_next k at blocks ops c.in-Some.ensures.ops) c.loop-k.invariant.ahead in
    let line : c.go.result ≡ go (pos (at + 3)) = search rules in
    let next = cells_next blocks k ops c.in-Some.ensures.ops in
    record {
      ahead = subst (λ n. Ahead old new all (lines_text (rows_lines (at + n) (drop (k + 1) blocks)))) (sym c.ops_cells-at.ensures)
          (ahead_more old here new all piece rest tt left (subst (λ l. Puts here new (line_text l) (Ok tt)) line c.in_ok-put_line.ensures));
      room = omega (arith, next, c.loop-k.invariant.room, c.ops_cells-at.ensures);
    }

pub returns : goal.returns
returns g c =
    let old : Outlet = record { got = g.O.Sink.got c.args.out.now; faults = g.O.Sink.faults c.args.out.now; held = c.args.put.now } in
    let here : Outlet = record { got = g.O.Sink.got c.loop-k.out; faults = g.O.Sink.faults c.loop-k.out; held = c.loop-k.put } in
    let p = c.args.p.now in
    let all = lines_text (rows_lines (blocks_start p) p.blocks) in
    ahead_done old here all tt (subst (λ bs. Ahead old here all bs) (rows_done c.loop-k.k c.loop-k.at p.blocks (omega (arith, c.block_count-k-end.ensures.count))) c.loop-k.invariant.ahead)
