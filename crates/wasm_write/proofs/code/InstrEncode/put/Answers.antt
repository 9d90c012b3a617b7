use Rattle.std.proofs.Common.{ℕ, List, [], ◌∷◌, Ok, Err, subst}
use Rattle.std.proofs.lemmas.Result.{err_from_is_err_and}
use Rattle.mach_core.specs.Puts.{Outlet, Puts}
use Rattle.mach_core.proofs.Ahead.{puts_both, puts_stopped}
use Rattle.wasm_bin.specs.Opcode.{coded}
use Rattle.wasm_write.specs.Written.{operands_bytes}
use Rattle.wasm_write.proofs.Pieces.{byte_is}
use Rattle.wasm_write.proofs.code.InstrEncode.put.Goals as goal

pub returns-in_err-pieces : goal.returns-in_err-pieces
returns-in_err-pieces g c =
    let old : Outlet = record { got = g.O.Sink.got c.args.out.now; faults = g.O.Sink.faults c.args.out.now; held = c.args.put.now } in
    let first : List ℕ = (coded c.args.self.now).0 ∷ [] in
    let operands = operands_bytes (coded c.args.self.now).1 in
    let way1 : Outlet = record { got = g.O.Sink.got c.pieces.new.out; faults = g.O.Sink.faults c.pieces.new.out; held = c.pieces.new.self } in
    let r = c.from_residual.result in
    (puts_stopped old way1 first operands c.in_err-pieces.field-0.0 r (err_from_is_err_and r c.from_residual.ensures.1) (subst (λ (row : List ℕ). Puts old way1 row (Err c.in_err-pieces.field-0.0)) (byte_is c.opcode.result (coded c.args.self.now).0 c.opcode.ensures) c.in_err-pieces.ensures))

pub returns : goal.returns
returns g c =
    let old : Outlet = record { got = g.O.Sink.got c.args.out.now; faults = g.O.Sink.faults c.args.out.now; held = c.args.put.now } in
    let first : List ℕ = (coded c.args.self.now).0 ∷ [] in
    let operands = operands_bytes (coded c.args.self.now).1 in
    let way1 : Outlet = record { got = g.O.Sink.got c.pieces.new.out; faults = g.O.Sink.faults c.pieces.new.out; held = c.pieces.new.self } in
    let way2 : Outlet = record { got = g.O.Sink.got c.put_operands.new.out; faults = g.O.Sink.faults c.put_operands.new.out; held = c.put_operands.new.put } in
    (puts_both old way1 way2 first operands tt c.put_operands.result (subst (λ (row : List ℕ). Puts old way1 row (Ok tt)) (byte_is c.opcode.result (coded c.args.self.now).0 c.opcode.ensures) c.in_ok-pieces.ensures) c.put_operands.ensures)
