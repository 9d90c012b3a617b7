use Rattle.std.proofs.Common.{◌^◌, ◌<◌, ◌++◌, ℕ, List, length, map, Ok, Err, subst, ap, ◌∙◌, length-append, arith}
use Rattle.std.proofs.lemmas.Result.{err_from_is_err_and}
use Rattle.std.specs.List.{flat_map}
use Rattle.mach_core.specs.Puts.{Outlet, Puts}
use Rattle.mach_core.proofs.Ahead.{puts_both, puts_stopped}
use Rattle.wasm_bin.specs.Opcode.{coded}
use Rattle.wasm_write.specs.Leb.{number_bytes}
use Rattle.wasm_write.specs.Written.{locals_bytes, instruction_bytes}
use Rattle.wasm_write.proofs.Pieces.{one_is}
use Rattle.wasm_write.proofs.Items.{rows_said, behind_fits}
use Rattle.wasm_write.proofs.code.BodyEncode.put.Goals as goal

pub returns-in_err-pieces : goal.returns-in_err-pieces
returns-in_err-pieces g c =
    let old : Outlet = record { got = g.O.Sink.got c.args.out.now; faults = g.O.Sink.faults c.args.out.now; held = c.args.put.now } in
    let body = c.args.self.now in
    let locals = locals_bytes body.locals in
    let code = flat_map instruction_bytes (map coded body.code) in
    let size = number_bytes (length (locals ++ code)) in
    let way1 : Outlet = record { got = g.O.Sink.got c.pieces.new.out; faults = g.O.Sink.faults c.pieces.new.out; held = c.pieces.new.self } in
    let r = c.from_residual.result in
    (puts_stopped old way1 size (locals ++ code) c.in_err-pieces.field-0.0 r (err_from_is_err_and r c.from_residual.ensures.1) (subst (λ (row : List ℕ). Puts old way1 row (Err c.in_err-pieces.field-0.0)) (one_is c.as_slice.result.now c.number.result.items size c.as_slice.ensures.value (c.number.ensures ∙ ap number_bytes c.function_size.ensures)) c.in_err-pieces.ensures))

pub returns-in_err-put_locals : goal.returns-in_err-put_locals
returns-in_err-put_locals g c =
    let old : Outlet = record { got = g.O.Sink.got c.args.out.now; faults = g.O.Sink.faults c.args.out.now; held = c.args.put.now } in
    let body = c.args.self.now in
    let locals = locals_bytes body.locals in
    let code = flat_map instruction_bytes (map coded body.code) in
    let size = number_bytes (length (locals ++ code)) in
    let way1 : Outlet = record { got = g.O.Sink.got c.pieces.new.out; faults = g.O.Sink.faults c.pieces.new.out; held = c.pieces.new.self } in
    let way2 : Outlet = record { got = g.O.Sink.got c.put_locals.new.out; faults = g.O.Sink.faults c.put_locals.new.out; held = c.put_locals.new.put } in
    let r = c.from_residual-in_err-put_locals.result in
    (puts_both old way1 way2 size (locals ++ code) tt r (subst (λ (row : List ℕ). Puts old way1 row (Ok tt)) (one_is c.as_slice.result.now c.number.result.items size c.as_slice.ensures.value (c.number.ensures ∙ ap number_bytes c.function_size.ensures)) c.in_ok-pieces.ensures) (puts_stopped way1 way2 locals code c.in_err-put_locals.field-0.0 r (err_from_is_err_and r c.from_residual-in_err-put_locals.ensures.1) c.in_err-put_locals.ensures))

pub returns : goal.returns
returns g c =
    let old : Outlet = record { got = g.O.Sink.got c.args.out.now; faults = g.O.Sink.faults c.args.out.now; held = c.args.put.now } in
    let body = c.args.self.now in
    let locals = locals_bytes body.locals in
    let code = flat_map instruction_bytes (map coded body.code) in
    let size = number_bytes (length (locals ++ code)) in
    let way1 : Outlet = record { got = g.O.Sink.got c.pieces.new.out; faults = g.O.Sink.faults c.pieces.new.out; held = c.pieces.new.self } in
    let way2 : Outlet = record { got = g.O.Sink.got c.put_locals.new.out; faults = g.O.Sink.faults c.put_locals.new.out; held = c.put_locals.new.put } in
    let way3 : Outlet = record { got = g.O.Sink.got c.put_items.new.out; faults = g.O.Sink.faults c.put_items.new.out; held = c.put_items.new.put } in
    (puts_both old way1 way3 size (locals ++ code) tt c.put_items.result (subst (λ (row : List ℕ). Puts old way1 row (Ok tt)) (one_is c.as_slice.result.now c.number.result.items size c.as_slice.ensures.value (c.number.ensures ∙ ap number_bytes c.function_size.ensures)) c.in_ok-pieces.ensures) (puts_both way1 way2 way3 locals code tt c.put_items.result c.in_ok-put_locals.ensures (subst (λ (row : List ℕ). Puts way2 way3 row c.put_items.result) (rows_said instruction_bytes coded c.as_slice-2.result.now body.code c.as_slice-2.ensures) c.put_items.ensures)))

pub put_items-requires : goal.put_items-requires
put_items-requires g c =
    let body = c.args.self.now in
    let items = c.as_slice-2.result.now in
    let locals = locals_bytes body.locals in
    let code = flat_map instruction_bytes (map coded body.code) in
    let size = number_bytes (length (locals ++ code)) in
    let whole : length (size ++ (locals ++ code)) < 2 ^ 32 = c.requires in
    let fits : length (locals ++ code) < 2 ^ 32 = omega (arith, length-append size (locals ++ code)) in
    behind_fits locals (flat_map (λ i. instruction_bytes (coded i)) items) code (rows_said instruction_bytes coded items body.code c.as_slice-2.ensures) fits
