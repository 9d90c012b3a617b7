use Rattle.std.proofs.Common.{◌+◌, ◌∷◌, [], drop, map, subst}
use Rattle.std.proofs.lemmas.Result.{err_from_is_err_and}
use Rattle.eir_print.specs.Printed.{text_of, op_line}
use Rattle.mach_core.specs.Puts.{Outlet}
use Rattle.mach_core.proofs.Ahead.{Ahead, ahead_more, ahead_stops}
use Rattle.eir_print.proofs.Texts.{lines_next}
use Rattle.eir_print.proofs.print.put_ops.Goals as goal

pub returns-in_err-put_op : goal.returns-in_err-put_op
returns-in_err-put_op g c =
    let old : Outlet = record { got = g.O.Sink.got c.args.out.now; faults = g.O.Sink.faults c.args.out.now; held = c.args.put.now } in
    let here : Outlet = record { got = g.O.Sink.got c.loop-op.out; faults = g.O.Sink.faults c.loop-op.out; held = c.loop-op.put } in
    let new : Outlet = record { got = g.O.Sink.got c.put_op.new.out; faults = g.O.Sink.faults c.put_op.new.out; held = c.put_op.new.put } in
    let all = text_of (map op_line c.args.ops.now) in
    let i = c.loop-op.op-index in
    let x = c.op-item.result in
    let left = subst (λ bs. Ahead old here all bs) (lines_next op_line c.args.ops.now i x c.loop-op-test.true c.op-item.is) c.loop-op.invariant in
    ahead_stops old here new all (text_of (op_line x ∷ [])) (text_of (map op_line (drop (i + 1) c.args.ops.now))) c.in_err-put_op.field-0.0 c.from_residual.result
    (err_from_is_err_and c.from_residual.result c.from_residual.ensures.1) left c.in_err-put_op.ensures

pub loop-op-preserved : goal.loop-op-preserved
loop-op-preserved g c =
    let old : Outlet = record { got = g.O.Sink.got c.args.out.now; faults = g.O.Sink.faults c.args.out.now; held = c.args.put.now } in
    let here : Outlet = record { got = g.O.Sink.got c.loop-op.out; faults = g.O.Sink.faults c.loop-op.out; held = c.loop-op.put } in
    let new : Outlet = record { got = g.O.Sink.got c.put_op.new.out; faults = g.O.Sink.faults c.put_op.new.out; held = c.put_op.new.put } in
    let all = text_of (map op_line c.args.ops.now) in
    let i = c.loop-op.op-index in
    let x = c.op-item.result in
    let left = subst (λ bs. Ahead old here all bs) (lines_next op_line c.args.ops.now i x c.loop-op-test.true c.op-item.is) c.loop-op.invariant in
    ahead_more old here new all (text_of (op_line x ∷ [])) (text_of (map op_line (drop (i + 1) c.args.ops.now))) tt left c.in_ok-put_op.ensures
