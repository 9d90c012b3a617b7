use Rattle.std.proofs.Common.{◌+◌, drop, subst}
use Rattle.std.specs.List.{flat_map}
use Rattle.std.proofs.lemmas.Result.{err_from_is_err_and}
use Rattle.mach_core.specs.Puts.{Outlet}
use Rattle.mach_core.proofs.Ahead.{Ahead, ahead_more, ahead_stops}
use Rattle.wasm_write.proofs.Items.{rows_next}
use Rattle.wasm_write.proofs.encode.put_items.Goals as goal

pub returns-in_err-put : goal.returns-in_err-put
returns-in_err-put g c =
    let old : Outlet = record { got = g.O.Sink.got c.args.out.now; faults = g.O.Sink.faults c.args.out.now; held = c.args.put.now } in
    let here : Outlet = record { got = g.O.Sink.got c.loop-item.out; faults = g.O.Sink.faults c.loop-item.out; held = c.loop-item.put } in
    let new : Outlet = record { got = g.O.Sink.got c.put.new.out; faults = g.O.Sink.faults c.put.new.out; held = c.put.new.put } in
    let bytes = g.T.Encode.bytes in
    let items = c.args.items.now in
    let i = c.loop-item.item-index in
    let x = c.item-item.result in
    let left = subst (λ row. Ahead old here (flat_map bytes items) row) (rows_next bytes items i x c.loop-item-test.true c.item-item.is) c.loop-item.invariant in
    ahead_stops old here new (flat_map bytes items) (bytes x) (flat_map bytes (drop (i + 1) items)) c.in_err-put.field-0.0 c.from_residual.result (err_from_is_err_and c.from_residual.result c.from_residual.ensures.1) left c.in_err-put.ensures

pub loop-item-preserved : goal.loop-item-preserved
loop-item-preserved g c =
    let old : Outlet = record { got = g.O.Sink.got c.args.out.now; faults = g.O.Sink.faults c.args.out.now; held = c.args.put.now } in
    let here : Outlet = record { got = g.O.Sink.got c.loop-item.out; faults = g.O.Sink.faults c.loop-item.out; held = c.loop-item.put } in
    let new : Outlet = record { got = g.O.Sink.got c.put.new.out; faults = g.O.Sink.faults c.put.new.out; held = c.put.new.put } in
    let bytes = g.T.Encode.bytes in
    let items = c.args.items.now in
    let i = c.loop-item.item-index in
    let x = c.item-item.result in
    let left = subst (λ row. Ahead old here (flat_map bytes items) row) (rows_next bytes items i x c.loop-item-test.true c.item-item.is) c.loop-item.invariant in
    ahead_more old here new (flat_map bytes items) (bytes x) (flat_map bytes (drop (i + 1) items)) tt left c.in_ok-put.ensures
