use Rattle.std.proofs.Common.{◌≡◌, ◌<◌, ◌≤◌, ℕ, length, Some, sym, ap, subst, ◌∙◌, arith, rules}
use Rattle.std.proofs.lemmas.Grind.{common_steps, elements}
use Rattle.std.specs.Prelude.{OnOk}
use Rattle.c_syntax.specs.Plain.{CValue}
use Rattle.c_syntax.specs.View.{value_of}
use Rattle.c_syntax.specs.declared.tree.Value.{Value}
use Rattle.c_syntax.specs.declared.tree.Value.TheFolds.{the_lemmas}
use Rattle.c_types.specs.Declarations.{slots_of, first_slot}
use Rattle.c_declared.specs.Slots.{behind}
use Rattle.c_declared.proofs.ValueRows.{braces_made}
use Rattle.c_declared.proofs.HeldLemmas.{held_kept}
use Rattle.c_declarations.proofs.GoingLemmas.{slots_held, slots_at, drop_at}
use Rattle.c_cells.proofs.StructLemmas.{struct_kinds_kept}
use Rattle.c_eval.specs.Environment.{type_or_nothing, slot_kinds}
use Rattle.c_eval.specs.LiteralsIn.{value_literals}
use Rattle.c_eval.specs.Text.{static_cells, zero_cells}
use Rattle.c_emitted.proofs.EmitLemmas.{on_ok}
use Rattle.c_operands.proofs.OperandLemmas.{grows_then}
use Rattle.c_types.specs.Table.{known}
use Rattle.c_static.specs.Forms.{IsQuietValue}
use Rattle.c_static.specs.Cells.{AddsShown, AddsCells}
use Rattle.c_static.proofs.CellLemmas.{going_begun, goes_on, going_done, slots_kept}
use Rattle.c_static.proofs.cells.+cells.Goals as goal

pub add_cells-add_all-requires : goal.add_cells-add_all-requires
add_cells-add_all-requires t c =
    let h = c.requires.holds in
    let ty = c.requires.ty in
    let table = c.args.types.now in
    let d = c.args.declared.now in
    let layouts = c.as_slice.result.now in
    let slots = slots_held table d h.0 layouts (Some c.args.ty) (Some ty.0) c.slots_of-slots.result c.as_slice.ensures.value h.1 ty.1 c.slots_of-slots.ensures in (
      first_of (search (rules, the_lemmas), grind (the_lemmas, arith, common_steps), grind (the_lemmas, arith, elements)),
      (h, (slots_of h.0.tags (Some ty.0), slots_at table layouts d.layouts.items c.slots_of-slots.result (slots_of h.0.tags (Some ty.0)) c.as_slice.ensures.value slots)),
    )

pub add_cells-returns-in-One-clause-cells : goal.add_cells-returns-in-One-clause-cells
add_cells-returns-in-One-clause-cells t c = λ u env has at structs quiet.
    subst (λ (v : Value). OnOk c.add_one.result (AddsCells c.args.out.now c.add_one.new.out c.args.cells.now.items c.add_one.new.cells.items (static_cells (value_of v) u env) (value_literals env.scope (value_of v)))) (sym c.in-One.is)
    (c.add_one.ensures.cells u env has at (subst (λ (v : Value). IsQuietValue env.scope (value_of v)) c.in-One.is quiet))

pub add_cells-returns-in-Many-clause-cells : goal.add_cells-returns-in-Many-clause-cells
add_cells-returns-in-Many-clause-cells t c = λ u env has at structs quiet.
    let table = c.args.types.now in
    let d = c.args.declared.now in
    let layouts = c.as_slice.result.now in
    let vs = c.in-Many.values in
    let all = slots_of env.scope.tags (Some u) in
    let slots = slots_held table d env.scope layouts (Some c.args.ty) (Some u) c.slots_of-slots.result c.as_slice.ensures.value at.holds has c.slots_of-slots.ensures in
    let made = ap (λ (v : Value). value_of v) c.in-Many.is ∙ braces_made vs in
    subst (λ (v : CValue). OnOk c.add_all.result (AddsCells c.args.out.now c.add_all.new.out c.args.cells.now.items c.add_all.new.cells.items (static_cells v u env) (value_literals env.scope v))) (sym made)
    (c.add_all.ensures.cells all env (slots_at table layouts d.layouts.items c.slots_of-slots.result all c.as_slice.ensures.value slots) at structs (subst (λ (v : CValue). IsQuietValue env.scope v) made quiet))

pub add_all-loop-k-init : goal.add_all-loop-k-init
add_all-loop-k-init t c = going_begun c.args.types.now c.args.declared.now c.args.structs.now c.args.out.now c.args.slots c.args.values.now.items.items c.args.cells.now.items

pub add_all-type_at-requires : goal.add_all-type_at-requires
add_all-type_at-requires t c =
    let sl = c.requires.slots in
    (sl.0, slots_kept c.args.types.now c.loop-k.types c.args.declared.now.layouts.items c.args.slots sl.0 c.loop-k.invariant.grows sl.1)

pub add_all-add_cells-requires : goal.add_all-add_cells-requires
add_all-add_cells-requires t c =
    let h = c.requires.holds in
    let sl = c.requires.slots in
    let g = c.loop-k.invariant in
    let old = c.args.types.now in
    let now = c.loop-k.types in
    let new = c.type_at.new.types in
    let d = c.args.declared.now in
    let grows = grows_then (known old) (known now) (known new) g.grows c.in_ok-ty.ensures.grows in (
      first_of (search (rules, the_lemmas), grind (the_lemmas, arith, common_steps), grind (the_lemmas, arith, elements)),
      (held_kept old new d grows (c.in_ok-ty.ensures.tags ∙ g.tags) h, (type_or_nothing (first_slot (behind c.loop-k.k sl.0)), c.in_ok-ty.ensures.ty sl.0 (slots_kept old now d.layouts.items c.args.slots sl.0 g.grows sl.1))),
    )

pub add_all-loop-k-preserved : goal.add_all-loop-k-preserved
add_all-loop-k-preserved t c =
    let items = c.args.values.now.items.items in
    let k = c.loop-k.k in
    let v = c.index-value.result.now in
    let count : c.len-count.result ≡ length items = omega arith in
    let within : k < length items = omega arith in
    goes_on c.args.types.now c.loop-k.types c.type_at.new.types c.add_cells.new.types c.args.declared.now c.args.structs.now c.args.out.now c.loop-k.out c.add_cells.new.out c.args.slots k c.in_ok-ty.ty items v
    c.args.cells.now.items c.loop-k.cells.items c.add_cells.new.cells.items c.loop-k.invariant (drop_at items k v within c.index-value.ensures)
    c.in_ok-ty.ensures.grows c.in_ok-ty.ensures.tags c.in_ok-add_cells.ensures.grows c.in_ok-add_cells.ensures.tags c.in_ok-ty.ensures.ty c.in_ok-add_cells.ensures.cells

pub add_all-add_rest-requires : goal.add_all-add_rest-requires
add_all-add_rest-requires t c =
    let sl = c.requires.slots in
    (sl.0, slots_kept c.args.types.now c.loop-k.types c.args.declared.now.layouts.items c.args.slots sl.0 c.loop-k.invariant.grows sl.1)

pub add_all-returns-clause-cells : goal.add_all-returns-clause-cells
add_all-returns-clause-cells t c = λ s env are at structs quiet.
    let items = c.args.values.now.items.items in
    let old = c.args.types.now in
    let now = c.loop-k.types in
    let g = c.loop-k.invariant in
    let d = c.args.declared.now in
    let k = c.loop-k.k in
    let count : c.len-count.result ≡ length items = omega arith in
    let past : length items ≤ k = omega arith in
    let same : c.len-count.result ≡ k = omega arith in
    let rest = c.add_rest.ensures s env.scope.tags (slots_kept old now d.layouts.items c.args.slots s g.grows are) (struct_kinds_kept old now c.args.structs.now env.scope.tags g.tags structs) in
    on_ok c.add_rest.result (λ shown.
    going_done old now d c.args.structs.now c.args.out.now c.loop-k.out c.args.slots k items c.args.cells.now.items c.loop-k.cells.items c.add_rest.new.cells.items s env g past are at structs quiet
    (subst (λ (n : ℕ). AddsShown c.loop-k.cells.items c.add_rest.new.cells.items (zero_cells (slot_kinds env.scope.tags (behind n s)))) same shown)) rest

pub add_cells-slots_of-slots-requires : goal.add_cells-slots_of-slots-requires
add_cells-slots_of-slots-requires t c = (Some c.requires.ty.0, c.requires.ty.1)
