use Rattle.std.proofs.Common.{◌++◌, ℕ, List, [], ◌∷◌}
use Rattle.std.proofs.lemmas.Result.{err_from_is_err_and}
use Rattle.mach_core.specs.Puts.{Outlet}
use Rattle.mach_core.proofs.Ahead.{puts_both, puts_stopped}
use Rattle.wasm_write.specs.Written.{value_types_bytes}
use Rattle.wasm_write.proofs.entry.FuncTypeEncode.put.Goals as goal

pub returns-in_err-pieces : goal.returns-in_err-pieces
returns-in_err-pieces g c =
    let old : Outlet = record { got = g.O.Sink.got c.args.out.now; faults = g.O.Sink.faults c.args.out.now; held = c.args.put.now } in
    let first : List ℕ = 0x60 ∷ [] in
    let params = value_types_bytes c.args.self.now.params in
    let results = value_types_bytes c.args.self.now.results in
    let way1 : Outlet = record { got = g.O.Sink.got c.pieces.new.out; faults = g.O.Sink.faults c.pieces.new.out; held = c.pieces.new.self } in
    let r = c.from_residual.result in
    (puts_stopped old way1 first (params ++ results) c.in_err-pieces.field-0.0 r (err_from_is_err_and r c.from_residual.ensures.1) c.in_err-pieces.ensures)

pub returns-in_err-put_value_types : goal.returns-in_err-put_value_types
returns-in_err-put_value_types g c =
    let old : Outlet = record { got = g.O.Sink.got c.args.out.now; faults = g.O.Sink.faults c.args.out.now; held = c.args.put.now } in
    let first : List ℕ = 0x60 ∷ [] in
    let params = value_types_bytes c.args.self.now.params in
    let results = value_types_bytes c.args.self.now.results in
    let way1 : Outlet = record { got = g.O.Sink.got c.pieces.new.out; faults = g.O.Sink.faults c.pieces.new.out; held = c.pieces.new.self } in
    let way2 : Outlet = record { got = g.O.Sink.got c.put_value_types.new.out; faults = g.O.Sink.faults c.put_value_types.new.out; held = c.put_value_types.new.put } in
    let r = c.from_residual-in_err-put_value_types.result in
    (puts_both old way1 way2 first (params ++ results) tt r c.in_ok-pieces.ensures (puts_stopped way1 way2 params results c.in_err-put_value_types.field-0.0 r (err_from_is_err_and r c.from_residual-in_err-put_value_types.ensures.1) c.in_err-put_value_types.ensures))

pub returns : goal.returns
returns g c =
    let old : Outlet = record { got = g.O.Sink.got c.args.out.now; faults = g.O.Sink.faults c.args.out.now; held = c.args.put.now } in
    let first : List ℕ = 0x60 ∷ [] in
    let params = value_types_bytes c.args.self.now.params in
    let results = value_types_bytes c.args.self.now.results in
    let way1 : Outlet = record { got = g.O.Sink.got c.pieces.new.out; faults = g.O.Sink.faults c.pieces.new.out; held = c.pieces.new.self } in
    let way2 : Outlet = record { got = g.O.Sink.got c.put_value_types.new.out; faults = g.O.Sink.faults c.put_value_types.new.out; held = c.put_value_types.new.put } in
    let way3 : Outlet = record { got = g.O.Sink.got c.put_value_types-2.new.out; faults = g.O.Sink.faults c.put_value_types-2.new.out; held = c.put_value_types-2.new.put } in
    (puts_both old way1 way3 first (params ++ results) tt c.put_value_types-2.result c.in_ok-pieces.ensures (puts_both way1 way2 way3 params results tt c.put_value_types-2.result c.in_ok-put_value_types.ensures c.put_value_types-2.ensures))
