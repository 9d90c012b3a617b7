use Rattle.std.proofs.Common.{◌++◌}
use Rattle.std.proofs.lemmas.Result.{err_from_is_err_and}
use Rattle.mach_core.specs.Puts.{Outlet}
use Rattle.mach_core.proofs.Ahead.{puts_both, puts_stopped}
use Rattle.wasm_bin.specs.Parts.{parts_of}
use Rattle.wasm_write.specs.Written.{header, declarations_bytes, definitions_bytes}
use Rattle.wasm_write.proofs.write.put_module.Goals as goal

pub returns-in_err-pieces : goal.returns-in_err-pieces
returns-in_err-pieces g c =
    let old : Outlet = record { got = g.O.Sink.got c.args.out.now; faults = g.O.Sink.faults c.args.out.now; held = c.args.put.now } in
    let parts = parts_of c.args.m.now in
    let declarations = declarations_bytes parts in
    let definitions = definitions_bytes parts in
    let way1 : Outlet = record { got = g.O.Sink.got c.pieces.new.out; faults = g.O.Sink.faults c.pieces.new.out; held = c.pieces.new.self } in
    let r = c.from_residual.result in
    (puts_stopped old way1 header (declarations ++ definitions) c.in_err-pieces.field-0.0 r (err_from_is_err_and r c.from_residual.ensures.1) c.in_err-pieces.ensures)

pub returns-in_err-put_declarations : goal.returns-in_err-put_declarations
returns-in_err-put_declarations g c =
    let old : Outlet = record { got = g.O.Sink.got c.args.out.now; faults = g.O.Sink.faults c.args.out.now; held = c.args.put.now } in
    let parts = parts_of c.args.m.now in
    let declarations = declarations_bytes parts in
    let definitions = definitions_bytes parts in
    let way1 : Outlet = record { got = g.O.Sink.got c.pieces.new.out; faults = g.O.Sink.faults c.pieces.new.out; held = c.pieces.new.self } in
    let way2 : Outlet = record { got = g.O.Sink.got c.put_declarations.new.out; faults = g.O.Sink.faults c.put_declarations.new.out; held = c.put_declarations.new.put } in
    let r = c.from_residual-in_err-put_declarations.result in
    (puts_both old way1 way2 header (declarations ++ definitions) tt r c.in_ok-pieces.ensures (puts_stopped way1 way2 declarations definitions c.in_err-put_declarations.field-0.0 r (err_from_is_err_and r c.from_residual-in_err-put_declarations.ensures.1) c.in_err-put_declarations.ensures))

pub returns : goal.returns
returns g c =
    let old : Outlet = record { got = g.O.Sink.got c.args.out.now; faults = g.O.Sink.faults c.args.out.now; held = c.args.put.now } in
    let parts = parts_of c.args.m.now in
    let declarations = declarations_bytes parts in
    let definitions = definitions_bytes parts in
    let way1 : Outlet = record { got = g.O.Sink.got c.pieces.new.out; faults = g.O.Sink.faults c.pieces.new.out; held = c.pieces.new.self } in
    let way2 : Outlet = record { got = g.O.Sink.got c.put_declarations.new.out; faults = g.O.Sink.faults c.put_declarations.new.out; held = c.put_declarations.new.put } in
    let way3 : Outlet = record { got = g.O.Sink.got c.put_definitions.new.out; faults = g.O.Sink.faults c.put_definitions.new.out; held = c.put_definitions.new.put } in
    (puts_both old way1 way3 header (declarations ++ definitions) tt c.put_definitions.result c.in_ok-pieces.ensures (puts_both way1 way2 way3 declarations definitions tt c.put_definitions.result c.in_ok-put_declarations.ensures c.put_definitions.ensures))
