use Rattle.std.proofs.Common.{◌≡◌, ◌+◌, Ok, Err, drop, sym, ◌∙◌, subst, arith, rules, FitsSigned, w64, to_z, of_z}
use Rattle.std.proofs.lemmas.Result.{err_from_is_err_and}
use Rattle.std.proofs.lemmas.Int.{to_z-of_z}
use Rattle.sq_back.specs.Code.{op_cells, place_after, op_lines, ops_lines}
use Rattle.sq_back.specs.Text.{lines_text}
use Rattle.mach_core.specs.Puts.{Outlet, Puts}
use Rattle.mach_core.proofs.Ahead.{Ahead, ahead_more, ahead_stops, ahead_done}
use Rattle.sq_back.proofs.Texts.{place_is, ops_next, ops_done, ops_cells_next}
use Rattle.sq_back.proofs.image.put_ops.Goals as goal

pub returns-in_err-put_op : goal.returns-in_err-put_op
returns-in_err-put_op g c =
    let old : Outlet = record { got = g.O.Sink.got c.args.out.now; faults = g.O.Sink.faults c.args.out.now; held = c.args.put.now } in
    let here : Outlet = record { got = g.O.Sink.got c.loop-i.out; faults = g.O.Sink.faults c.loop-i.out; held = c.loop-i.put } in
    let new : Outlet = record { got = g.O.Sink.got c.put_op.new.out; faults = g.O.Sink.faults c.put_op.new.out; held = c.put_op.new.put } in
    let n = c.args.count in
    let k = c.args.k in
    let ops = c.args.ops.now in
    let i = c.loop-i.i in
    let at = c.loop-i.here in
    let op = c.index-ops-i.result in
    let behind = drop (i + 1) ops in
    let all = lines_text (ops_lines n k c.args.at ops) in
    let piece = lines_text (op_lines n at (place_after n k (at + op_cells op) behind) op) in
    let rest = lines_text (ops_lines n k (at + op_cells op) behind) in
    let left = subst (λ bs. Ahead old here all bs) (ops_next n k at i ops op c.loop-i-test.true c.index-ops-i.is) c.loop-i.invariant.ahead in
    let fits : FitsSigned w64 c.place_after-place.result = search rules in
    let place : to_z w64 (of_z w64 c.place_after-place.result) ≡ place_after n k (at + op_cells op) behind =
    to_z-of_z w64 c.place_after-place.result fits ∙ place_is n k at i c.op_cells.result ops op c.place_after-place.result c.place_after-place.ensures c.op_cells.ensures.cells in
    ahead_stops old here new all piece rest c.in_err-put_op.field-0.0 c.from_residual.result (err_from_is_err_and c.from_residual.result c.from_residual.ensures.1) left
    (subst (λ z. Puts here new (lines_text (op_lines n at z op)) (Err c.in_err-put_op.field-0.0)) place c.in_err-put_op.ensures)

pub loop-i-preserved : goal.loop-i-preserved
loop-i-preserved g c =
    let old : Outlet = record { got = g.O.Sink.got c.args.out.now; faults = g.O.Sink.faults c.args.out.now; held = c.args.put.now } in
    let here : Outlet = record { got = g.O.Sink.got c.loop-i.out; faults = g.O.Sink.faults c.loop-i.out; held = c.loop-i.put } in
    let new : Outlet = record { got = g.O.Sink.got c.put_op.new.out; faults = g.O.Sink.faults c.put_op.new.out; held = c.put_op.new.put } in
    let n = c.args.count in
    let k = c.args.k in
    let ops = c.args.ops.now in
    let i = c.loop-i.i in
    let at = c.loop-i.here in
    let op = c.index-ops-i.result in
    let behind = drop (i + 1) ops in
    let all = lines_text (ops_lines n k c.args.at ops) in
    let piece = lines_text (op_lines n at (place_after n k (at + op_cells op) behind) op) in
    let rest = lines_text (ops_lines n k (at + op_cells op) behind) in
    let left = subst (λ bs. Ahead old here all bs) (ops_next n k at i ops op c.loop-i-test.true c.index-ops-i.is) c.loop-i.invariant.ahead in
    let fits : FitsSigned w64 c.place_after-place.result = search rules in
    let place : to_z w64 (of_z w64 c.place_after-place.result) ≡ place_after n k (at + op_cells op) behind =
    to_z-of_z w64 c.place_after-place.result fits ∙ place_is n k at i c.op_cells.result ops op c.place_after-place.result c.place_after-place.ensures c.op_cells.ensures.cells in
    let next = ops_cells_next ops i op c.loop-i-test.true c.index-ops-i.is in
    record {
      ahead = subst (λ m. Ahead old new all (lines_text (ops_lines n k (at + m) behind))) (sym c.op_cells.ensures.cells)
          (ahead_more old here new all piece rest tt left (subst (λ z. Puts here new (lines_text (op_lines n at z op)) (Ok tt)) place c.in_ok-put_op.ensures));
      room = omega (arith, next, c.loop-i.invariant.room, c.op_cells.ensures.cells);
    }

pub returns : goal.returns
returns g c =
    let old : Outlet = record { got = g.O.Sink.got c.args.out.now; faults = g.O.Sink.faults c.args.out.now; held = c.args.put.now } in
    let here : Outlet = record { got = g.O.Sink.got c.loop-i.out; faults = g.O.Sink.faults c.loop-i.out; held = c.loop-i.put } in
    let all = lines_text (ops_lines c.args.count c.args.k c.args.at c.args.ops.now) in
    ahead_done old here all tt (subst (λ bs. Ahead old here all bs) (ops_done c.args.count c.args.k c.loop-i.here c.args.ops.now c.loop-i.i c.loop-i-test.false) c.loop-i.invariant.ahead)
