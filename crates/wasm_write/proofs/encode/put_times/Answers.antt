use Rattle.std.proofs.Common.{◌+◌, ◌-◌, [], ◌∷◌, replicate, subst}
use Rattle.std.proofs.lemmas.Result.{err_from_is_err_and}
use Rattle.mach_core.specs.Puts.{Outlet}
use Rattle.mach_core.proofs.Ahead.{Ahead, ahead_more, ahead_stops}
use Rattle.wasm_write.proofs.Items.{times_next}
use Rattle.wasm_write.proofs.encode.put_times.Goals as goal

pub returns-in_err-pieces : goal.returns-in_err-pieces
returns-in_err-pieces g c =
    let old : Outlet = record { got = g.O.Sink.got c.args.out.now; faults = g.O.Sink.faults c.args.out.now; held = c.args.put.now } in
    let here : Outlet = record { got = g.O.Sink.got c.loop.out; faults = g.O.Sink.faults c.loop.out; held = c.loop.put } in
    let new : Outlet = record { got = g.O.Sink.got c.pieces.new.out; faults = g.O.Sink.faults c.pieces.new.out; held = c.pieces.new.self } in
    let n = c.args.count in
    let byte = c.args.byte in
    let i = c.loop.counter in
    let left = subst (λ row. Ahead old here (replicate n byte) row) (times_next n i byte c.loop-test.true) c.loop.invariant in
    ahead_stops old here new (replicate n byte) (byte ∷ []) (replicate (n - (i + 1)) byte) c.in_err-pieces.field-0.0 c.from_residual.result (err_from_is_err_and c.from_residual.result c.from_residual.ensures.1) left c.in_err-pieces.ensures

pub loop-preserved : goal.loop-preserved
loop-preserved g c =
    let old : Outlet = record { got = g.O.Sink.got c.args.out.now; faults = g.O.Sink.faults c.args.out.now; held = c.args.put.now } in
    let here : Outlet = record { got = g.O.Sink.got c.loop.out; faults = g.O.Sink.faults c.loop.out; held = c.loop.put } in
    let new : Outlet = record { got = g.O.Sink.got c.pieces.new.out; faults = g.O.Sink.faults c.pieces.new.out; held = c.pieces.new.self } in
    let n = c.args.count in
    let byte = c.args.byte in
    let i = c.loop.counter in
    let left = subst (λ row. Ahead old here (replicate n byte) row) (times_next n i byte c.loop-test.true) c.loop.invariant in
    ahead_more old here new (replicate n byte) (byte ∷ []) (replicate (n - (i + 1)) byte) tt left c.in_ok-pieces.ensures
