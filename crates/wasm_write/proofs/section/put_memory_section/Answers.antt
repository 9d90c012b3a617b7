use Rattle.std.proofs.Common.{◌+◌, ◌++◌, ℕ, List, [], ◌∷◌, length, Ok, Err, subst, sym, ap, ◌∙◌, arith}
use Rattle.std.proofs.lemmas.Result.{err_from_is_err_and}
use Rattle.mach_core.specs.Puts.{Outlet, Puts}
use Rattle.mach_core.proofs.Ahead.{puts_both, puts_stopped}
use Rattle.wasm_write.specs.Leb.{number_bytes}
use Rattle.wasm_write.specs.Written.{limits_bytes, memory_section}
use Rattle.wasm_write.proofs.Pieces.{frame_is}
use Rattle.wasm_write.proofs.Items.{memory_whole}
use Rattle.wasm_write.proofs.Lengths.{range_few}
use Rattle.wasm_write.proofs.section.put_memory_section.Goals as goal

pub returns-in_err-pieces : goal.returns-in_err-pieces
returns-in_err-pieces g c =
    let old : Outlet = record { got = g.O.Sink.got c.args.out.now; faults = g.O.Sink.faults c.args.out.now; held = c.args.put.now } in
    let limits = c.in-Some.limits in
    let contents = limits_bytes limits in
    let size = number_bytes (1 + length contents) in
    let first : List ℕ = 5 ∷ (size ++ 1 ∷ []) in
    let way1 : Outlet = record { got = g.O.Sink.got c.pieces.new.out; faults = g.O.Sink.faults c.pieces.new.out; held = c.pieces.new.self } in
    let r = c.from_residual.result in
    subst (λ (row : List ℕ). Puts old way1 row r) (memory_whole limits ∙ ap memory_section (sym c.in-Some.is)) (puts_stopped old way1 first contents c.in_err-pieces.field-0.0 r (err_from_is_err_and r c.from_residual.ensures.1) (subst (λ (row : List ℕ). Puts old way1 row (Err c.in_err-pieces.field-0.0)) (frame_is 5 1 c.as_slice.result.now size (c.as_slice.ensures.value ∙ (c.number-size.ensures ∙ ap (λ (n : ℕ). number_bytes (1 + n)) c.limits_size.ensures))) c.in_err-pieces.ensures))

pub returns : goal.returns
returns g c =
    let old : Outlet = record { got = g.O.Sink.got c.args.out.now; faults = g.O.Sink.faults c.args.out.now; held = c.args.put.now } in
    let limits = c.in-Some.limits in
    let contents = limits_bytes limits in
    let size = number_bytes (1 + length contents) in
    let first : List ℕ = 5 ∷ (size ++ 1 ∷ []) in
    let way1 : Outlet = record { got = g.O.Sink.got c.pieces.new.out; faults = g.O.Sink.faults c.pieces.new.out; held = c.pieces.new.self } in
    let way2 : Outlet = record { got = g.O.Sink.got c.put_limits.new.out; faults = g.O.Sink.faults c.put_limits.new.out; held = c.put_limits.new.put } in
    subst (λ (row : List ℕ). Puts old way2 row c.put_limits.result) (memory_whole limits ∙ ap memory_section (sym c.in-Some.is)) (puts_both old way1 way2 first contents tt c.put_limits.result (subst (λ (row : List ℕ). Puts old way1 row (Ok tt)) (frame_is 5 1 c.as_slice.result.now size (c.as_slice.ensures.value ∙ (c.number-size.ensures ∙ ap (λ (n : ℕ). number_bytes (1 + n)) c.limits_size.ensures))) c.in_ok-pieces.ensures) c.put_limits.ensures)

pub overflow_add-limits_size : goal.overflow_add-limits_size
overflow_add-limits_size g c = omega (arith, range_few c.in-Some.limits.min c.in-Some.limits.max, c.limits_size.ensures)
