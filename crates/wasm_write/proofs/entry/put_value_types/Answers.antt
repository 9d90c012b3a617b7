use Rattle.std.proofs.Common.{ℕ, List, replicate, Ok, Err, subst}
use Rattle.std.proofs.lemmas.Result.{err_from_is_err_and}
use Rattle.mach_core.specs.Puts.{Outlet, Puts}
use Rattle.mach_core.proofs.Ahead.{puts_both, puts_stopped}
use Rattle.wasm_write.specs.Leb.{number_bytes}
use Rattle.wasm_write.proofs.Pieces.{one_is}
use Rattle.wasm_write.proofs.entry.put_value_types.Goals as goal

pub returns-in_err-pieces : goal.returns-in_err-pieces
returns-in_err-pieces g c =
    let old : Outlet = record { got = g.O.Sink.got c.args.out.now; faults = g.O.Sink.faults c.args.out.now; held = c.args.put.now } in
    let first = number_bytes c.args.count in
    let types = replicate c.args.count 0x7F in
    let way1 : Outlet = record { got = g.O.Sink.got c.pieces.new.out; faults = g.O.Sink.faults c.pieces.new.out; held = c.pieces.new.self } in
    let r = c.from_residual.result in
    (puts_stopped old way1 first types c.in_err-pieces.field-0.0 r (err_from_is_err_and r c.from_residual.ensures.1) (subst (λ (row : List ℕ). Puts old way1 row (Err c.in_err-pieces.field-0.0)) (one_is c.as_slice.result.now c.number.result.items first c.as_slice.ensures.value c.number.ensures) c.in_err-pieces.ensures))

pub returns : goal.returns
returns g c =
    let old : Outlet = record { got = g.O.Sink.got c.args.out.now; faults = g.O.Sink.faults c.args.out.now; held = c.args.put.now } in
    let first = number_bytes c.args.count in
    let types = replicate c.args.count 0x7F in
    let way1 : Outlet = record { got = g.O.Sink.got c.pieces.new.out; faults = g.O.Sink.faults c.pieces.new.out; held = c.pieces.new.self } in
    let way2 : Outlet = record { got = g.O.Sink.got c.put_times.new.out; faults = g.O.Sink.faults c.put_times.new.out; held = c.put_times.new.put } in
    (puts_both old way1 way2 first types tt c.put_times.result (subst (λ (row : List ℕ). Puts old way1 row (Ok tt)) (one_is c.as_slice.result.now c.number.result.items first c.as_slice.ensures.value c.number.ensures) c.in_ok-pieces.ensures) c.put_times.ensures)
