use Rattle.std.proofs.Common.{◌++◌, ℕ, List, ◌∷◌, length, Ok, Err, subst, ap, ◌∙◌}
use Rattle.std.proofs.lemmas.Result.{err_from_is_err_and}
use Rattle.std.specs.List.{flat_map}
use Rattle.mach_core.specs.Puts.{Outlet, Puts}
use Rattle.mach_core.proofs.Ahead.{puts_both, puts_stopped}
use Rattle.wasm_write.specs.Leb.{number_bytes}
use Rattle.wasm_write.specs.Written.{vector_bytes}
use Rattle.wasm_write.proofs.Pieces.{head_is}
use Rattle.wasm_write.proofs.Items.{vector_size, section_whole, is_some}
use Rattle.wasm_write.proofs.section.put_vector_section.Goals as goal

pub returns-in_err-pieces : goal.returns-in_err-pieces
returns-in_err-pieces g c =
    let old : Outlet = record { got = g.O.Sink.got c.args.out.now; faults = g.O.Sink.faults c.args.out.now; held = c.args.put.now } in
    let items = c.args.items.now in
    let bytes = g.T.Encode.bytes in
    let count = number_bytes (length items) in
    let size = number_bytes (length (vector_bytes bytes items)) in
    let first : List ℕ = c.args.id ∷ (size ++ count) in
    let rows = flat_map bytes items in
    let way1 : Outlet = record { got = g.O.Sink.got c.pieces.new.out; faults = g.O.Sink.faults c.pieces.new.out; held = c.pieces.new.self } in
    let r = c.from_residual.result in
    subst (λ (row : List ℕ). Puts old way1 row r) (section_whole c.args.id bytes items (is_some (length items) c.is_empty.result c.is_empty.ensures c.if-is_empty.false)) (puts_stopped old way1 first rows c.in_err-pieces.field-0.0 r (err_from_is_err_and r c.from_residual.ensures.1) (subst (λ (row : List ℕ). Puts old way1 row (Err c.in_err-pieces.field-0.0)) (head_is c.args.id c.as_slice.result.now c.as_slice-2.result.now size count (c.as_slice.ensures.value ∙ (c.number-size.ensures ∙ ap number_bytes (vector_size bytes items c.len.result c.items_size.result (c.len.ensures.value ∙ ap length c.number-count.ensures) c.items_size.ensures))) (c.as_slice-2.ensures.value ∙ c.number-count.ensures)) c.in_err-pieces.ensures))

pub returns : goal.returns
returns g c =
    let old : Outlet = record { got = g.O.Sink.got c.args.out.now; faults = g.O.Sink.faults c.args.out.now; held = c.args.put.now } in
    let items = c.args.items.now in
    let bytes = g.T.Encode.bytes in
    let count = number_bytes (length items) in
    let size = number_bytes (length (vector_bytes bytes items)) in
    let first : List ℕ = c.args.id ∷ (size ++ count) in
    let rows = flat_map bytes items in
    let way1 : Outlet = record { got = g.O.Sink.got c.pieces.new.out; faults = g.O.Sink.faults c.pieces.new.out; held = c.pieces.new.self } in
    let way2 : Outlet = record { got = g.O.Sink.got c.put_items.new.out; faults = g.O.Sink.faults c.put_items.new.out; held = c.put_items.new.put } in
    subst (λ (row : List ℕ). Puts old way2 row c.put_items.result) (section_whole c.args.id bytes items (is_some (length items) c.is_empty.result c.is_empty.ensures c.if-is_empty.false)) (puts_both old way1 way2 first rows tt c.put_items.result (subst (λ (row : List ℕ). Puts old way1 row (Ok tt)) (head_is c.args.id c.as_slice.result.now c.as_slice-2.result.now size count (c.as_slice.ensures.value ∙ (c.number-size.ensures ∙ ap number_bytes (vector_size bytes items c.len.result c.items_size.result (c.len.ensures.value ∙ ap length c.number-count.ensures) c.items_size.ensures))) (c.as_slice-2.ensures.value ∙ c.number-count.ensures)) c.in_ok-pieces.ensures) c.put_items.ensures)
