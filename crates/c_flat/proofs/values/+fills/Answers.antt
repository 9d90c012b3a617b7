use Rattle.std.proofs.Common.{◌≡◌, ◌<◌, ◌≤◌, ℕ, List, [], ◌∷◌, length, Some, sym, ap, subst, ◌∙◌, arith, rules}
use Rattle.std.proofs.lemmas.Grind.{common_steps, elements}
use Rattle.std.specs.Prelude.{OnOk}
use Rattle.c_syntax.specs.Plain.{CValue}
use Rattle.c_syntax.specs.View.{value_of}
use Rattle.c_syntax.specs.declared.tree.Value.{Value}
use Rattle.c_syntax.specs.declared.tree.Value.TheFolds.{the_lemmas}
use Rattle.c_types.specs.Declarations.{slots_of, first_slot}
use Rattle.c_types.specs.Known.{OneType}
use Rattle.c_types.specs.Table.{known}
use Rattle.c_layouts.specs.declared.layout.Layout.{Layout}
use Rattle.c_layouts.specs.Layouts.{AreLayouts}
use Rattle.c_operands.proofs.OperandLemmas.{grows_then, type_within}
use Rattle.c_declared.specs.Slots.{behind}
use Rattle.c_declared.proofs.ValueRows.{braces_made}
use Rattle.c_declared.proofs.HeldLemmas.{held_kept, holds_kept}
use Rattle.c_declarations.proofs.GoingLemmas.{slots_held, slots_at, drop_at}
use Rattle.c_cells.proofs.StructLemmas.{struct_kinds_kept}
use Rattle.c_eval.specs.Environment.{type_or_nothing, slot_kinds}
use Rattle.c_eval.specs.LiteralsIn.{value_literals}
use Rattle.c_code.specs.Code as code
use Rattle.c_code.specs.Code.{first_code}
use Rattle.c_emitted.specs.Emits.{Emits}
use Rattle.c_emitted.proofs.EmitLemmas.{on_ok}
use Rattle.c_fitting.specs.Whole.{ValueIsFit}
use Rattle.c_static.proofs.CellLemmas.{slots_kept}
use Rattle.c_flat.proofs.FirstLemmas.{going_begun, goes_on, going_done}
use Rattle.c_flat.proofs.values.+fills.Goals as goal

pub fill-slots_of-slots-requires : goal.fill-slots_of-slots-requires
fill-slots_of-slots-requires t c = (Some c.requires.ty.0, c.requires.ty.1)

pub fill-fill_all-requires : goal.fill-fill_all-requires
fill-fill_all-requires t c =
    let h = c.requires.holds in
    let ty = c.requires.ty in
    let table = c.args.types.now in
    let d = c.args.here.now.declared in
    let layouts = c.as_slice.result.now in
    let slots = slots_held table d h.0 layouts (Some c.args.ty) (Some ty.0) c.slots_of-slots.result c.as_slice.ensures.value h.1 ty.1 c.slots_of-slots.ensures in (
      first_of (search (rules, the_lemmas), grind (the_lemmas, arith, common_steps), grind (the_lemmas, arith, elements)),
      (h, (slots_of h.0.tags (Some ty.0), slots_at table layouts d.layouts.items c.slots_of-slots.result (slots_of h.0.tags (Some ty.0)) c.as_slice.ensures.value slots)),
    )

pub fill-returns-in-One-clause-emits : goal.fill-returns-in-One-clause-emits
fill-returns-in-One-clause-emits t c = λ u site env has here kinds fit.
    subst (λ (v : Value). OnOk c.fill_one.result (Emits c.args.out.now c.fill_one.new.out (first_code (value_of v) u c.args.slot c.args.offset site env) (value_literals env.scope (value_of v)))) (sym c.in-One.is)
    (c.fill_one.ensures.emits u site env has here (subst (λ (v : Value). ValueIsFit env.scope u (value_of v)) c.in-One.is fit))

pub fill-returns-in-Many-clause-emits : goal.fill-returns-in-Many-clause-emits
fill-returns-in-Many-clause-emits t c = λ u site env has here kinds fit.
    let table = c.args.types.now in
    let d = c.args.here.now.declared in
    let layouts = c.as_slice.result.now in
    let vs = c.in-Many.values in
    let all = slots_of env.scope.tags (Some u) in
    let slots = slots_held table d env.scope layouts (Some c.args.ty) (Some u) c.slots_of-slots.result c.as_slice.ensures.value here.holds has c.slots_of-slots.ensures in
    let made = ap (λ (v : Value). value_of v) c.in-Many.is ∙ braces_made vs in
    subst (λ (v : CValue). OnOk c.fill_all.result (Emits c.args.out.now c.fill_all.new.out (first_code v u c.args.slot c.args.offset site env) (value_literals env.scope v))) (sym made)
    (c.fill_all.ensures.emits all site env (slots_at table layouts d.layouts.items c.slots_of-slots.result all c.as_slice.ensures.value slots) here kinds (subst (λ (v : CValue). ValueIsFit env.scope u v) made fit))

pub fill_all-loop-k-init : goal.fill_all-loop-k-init
fill_all-loop-k-init t c = going_begun c.args.types.now c.args.here.now c.args.structs.now c.args.out.now c.args.slots c.args.slot c.args.offset c.args.values.now.items.items

pub fill_all-type_at-requires : goal.fill_all-type_at-requires
fill_all-type_at-requires t c =
    let sl = c.requires.slots in
    (sl.0, slots_kept c.args.types.now c.loop-k.types c.args.here.now.declared.layouts.items c.args.slots sl.0 c.loop-k.invariant.grows sl.1)

pub fill_all-fill-requires : goal.fill_all-fill-requires
fill_all-fill-requires t c =
    let h = c.requires.holds in
    let sl = c.requires.slots in
    let g = c.loop-k.invariant in
    let old = c.args.types.now in
    let now = c.loop-k.types in
    let new = c.type_at.new.types in
    let d = c.args.here.now.declared in
    let grows = grows_then (known old) (known now) (known new) g.grows c.in_ok-ty.ensures.grows in (
      first_of (search (rules, the_lemmas), grind (the_lemmas, arith, common_steps), grind (the_lemmas, arith, elements)),
      (held_kept old new d grows (c.in_ok-ty.ensures.tags ∙ g.tags) h, (type_or_nothing (first_slot (behind c.loop-k.k sl.0)), c.in_ok-ty.ensures.ty sl.0 (slots_kept old now d.layouts.items c.args.slots sl.0 g.grows sl.1))),
    )

pub fill_all-loop-k-preserved : goal.fill_all-loop-k-preserved
fill_all-loop-k-preserved t c =
    let items = c.args.values.now.items.items in
    let here = c.args.here.now in
    let k = c.loop-k.k in
    let v = c.index-value.result.now in
    let mid = c.type_at.new.types in
    let new = c.fill.new.types in
    let n = c.in_ok-ty.ty in
    let count : c.len-count.result ≡ length items = omega arith in
    let within : k < length items = omega arith in
    goes_on c.args.types.now c.loop-k.types mid new here c.args.structs.now c.args.out.now c.loop-k.out c.fill.new.out c.args.slots k c.args.slot c.args.offset c.loop-k.place c.word_count-words.result c.in_ok-place.place n items v
    c.loop-k.invariant (drop_at items k v within c.index-value.ensures)
    c.in_ok-ty.ensures.grows c.in_ok-ty.ensures.tags c.in_ok-fill.ensures.grows c.in_ok-fill.ensures.tags c.in_ok-place.ensures c.in_ok-ty.ensures.ty
    (λ site env u has at kinds fit. c.in_ok-fill.ensures.emits u site env has at kinds fit)
    (λ site env u has at narrow.
    let holds = holds_kept mid new here.declared env.scope c.in_ok-fill.ensures.grows c.in_ok-fill.ensures.tags at.holds in
    c.word_count-words.ensures u env.scope.tags (c.in_ok-fill.ensures.grows n (OneType u) has) (subst (λ (ls : List Layout). AreLayouts new ls env.scope.tags) (sym c.as_slice.ensures.value) holds.fits.layouts) narrow)

pub fill_all-clear-requires : goal.fill_all-clear-requires
fill_all-clear-requires t c =
    let sl = c.requires.slots in
    (sl.0, slots_kept c.args.types.now c.loop-k.types c.args.here.now.declared.layouts.items c.args.slots sl.0 c.loop-k.invariant.grows sl.1)

pub fill_all-returns-clause-emits : goal.fill_all-returns-clause-emits
fill_all-returns-clause-emits t c = λ s site env are here kinds fit.
    let items = c.args.values.now.items.items in
    let old = c.args.types.now in
    let now = c.loop-k.types in
    let g = c.loop-k.invariant in
    let d = c.args.here.now.declared in
    let k = c.loop-k.k in
    let slot = c.args.slot in
    let count : c.len-count.result ≡ length items = omega arith in
    let past : length items ≤ k = omega arith in
    let same : c.len-count.result ≡ k = omega arith in
    let cleared = c.clear.ensures s env.scope.tags (slots_kept old now d.layouts.items c.args.slots s g.grows are) (struct_kinds_kept old now c.args.structs.now env.scope.tags g.tags kinds) in
    on_ok c.clear.result (λ emits.
    going_done old now c.args.here.now c.args.structs.now c.args.out.now c.loop-k.out c.clear.new.out c.args.slots k slot c.args.offset c.loop-k.place items s site env g past are here kinds fit
    (subst (λ (n : ℕ). Emits c.loop-k.out c.clear.new.out (code.Clear slot c.loop-k.place (slot_kinds env.scope.tags (behind n s)) ∷ []) []) same emits)) cleared

pub fill_all-word_count-words-requires : goal.fill_all-word_count-words-requires
fill_all-word_count-words-requires t c =
    let sl = c.requires.slots in
    let n = c.in_ok-ty.ty in
    let u = type_or_nothing (first_slot (behind c.loop-k.k sl.0)) in
    let has = c.in_ok-ty.ensures.ty sl.0 (slots_kept c.args.types.now c.loop-k.types c.args.here.now.declared.layouts.items c.args.slots sl.0 c.loop-k.invariant.grows sl.1) in
    type_within c.fill.new.types n u (c.in_ok-fill.ensures.grows n (OneType u) has)
