use Rattle.std.proofs.Common.{◌≡◌, ◌<◌, ◌≤◌, ◌+◌, ℕ, List, length, replicate, Some, sym, ap, subst, ◌∙◌, arith, rules}
use Rattle.std.proofs.lemmas.Grind.{common_steps, elements}
use Rattle.std.specs.Prelude.{IfOk}
use Rattle.c_syntax.specs.Plain.{CValue}
use Rattle.c_syntax.specs.View.{value_of}
use Rattle.c_syntax.specs.declared.tree.Value.{Value}
use Rattle.c_syntax.specs.declared.tree.Value.TheFolds.{the_lemmas}
use Rattle.c_types.specs.Types.{words_of}
use Rattle.c_types.specs.Declarations.{slots_of, first_slot}
use Rattle.c_types.specs.Known.{OneType}
use Rattle.c_operands.proofs.OperandLemmas.{type_within}
use Rattle.c_layouts.specs.declared.layout.Layout.{Layout}
use Rattle.c_layouts.specs.Layouts.{AreLayouts}
use Rattle.c_declared.specs.Slots.{behind}
use Rattle.c_declared.proofs.ValueRows.{braces_made}
use Rattle.c_declarations.proofs.GoingLemmas.{slots_held, slots_at, drop_at}
use Rattle.c_eval.specs.Environment.{type_or_nothing, slot_kinds}
use Rattle.c_eval.specs.LiteralsIn.{value_literals}
use Rattle.c_static.proofs.CellLemmas.{slots_kept}
use Rattle.c_lowered.specs.Counts.{first_jumps}
use Rattle.c_lowered.specs.Statements.{spelled, first_code}
use Rattle.c_addressing.specs.Here.{Emits}
use Rattle.c_addressing.proofs.DirectLemmas.{low_number}
use Rattle.c_applied.specs.Leads.{Leads}
use Rattle.c_applied.proofs.LeadsLemmas.{kept, keeps_then, some_on}
use Rattle.c_lower_values.proofs.FirstLemmas.{going_begun, goes_on, going_done}
use Rattle.c_lower_values.proofs.values.+fills.Goals as goal

pub first_value-slots_of-slots-requires : goal.first_value-slots_of-slots-requires
first_value-slots_of-slots-requires t c = (Some c.requires.ty.0, c.requires.ty.1)

pub first_value-fill_all-requires : goal.first_value-fill_all-requires
first_value-fill_all-requires t c =
    let h = c.requires.holds in
    let ty = c.requires.ty in
    let table = c.args.out.now.types in
    let d = c.args.here.now.declared in
    let layouts = c.as_slice.result.now in
    let slots = slots_held table d h.0 layouts (Some c.args.ty) (Some ty.0) c.slots_of-slots.result c.as_slice.ensures.value h.1 ty.1 c.slots_of-slots.ensures in (
      first_of (search (rules, the_lemmas), grind (the_lemmas, arith, common_steps), grind (the_lemmas, arith, elements)),
      (h, (slots_of h.0.tags (Some ty.0), slots_at table layouts d.layouts.items c.slots_of-slots.result (slots_of h.0.tags (Some ty.0)) c.as_slice.ensures.value slots)),
    )

pub first_value-returns-in-One-clause-code : goal.first_value-returns-in-One-clause-code
first_value-returns-in-One-clause-code t c = λ u place has hp w env m n is kinds hk hd.
    subst (λ (v : Value). IfOk c.fill_one.result (λ r. Leads c.args.out.now c.fill_one.new.out (first_code (value_of v) u place w env m n) (length (value_literals env.scope (value_of v))) r (m + first_jumps (value_of v)))) (sym c.in-One.is)
    (c.fill_one.ensures.code u place has hp w env m n is hk hd)

pub first_value-returns-in-One-clause-keeps : goal.first_value-returns-in-One-clause-keeps
first_value-returns-in-One-clause-keeps t c = c.fill_one.ensures.keeps

pub first_value-returns-in-Many-clause-code : goal.first_value-returns-in-Many-clause-code
first_value-returns-in-Many-clause-code t c = λ u place has hp w env m n is kinds hk hd.
    let table = c.args.out.now.types in
    let d = c.args.here.now.declared in
    let layouts = c.as_slice.result.now in
    let vs = c.in-Many.values in
    let all = slots_of env.scope.tags (Some u) in
    let slots = slots_held table d env.scope layouts (Some c.args.ty) (Some u) c.slots_of-slots.result c.as_slice.ensures.value is.holds has c.slots_of-slots.ensures in
    let made = ap (λ (v : Value). value_of v) c.in-Many.is ∙ braces_made vs in
    subst (λ (v : CValue). IfOk c.fill_all.result (λ r. Leads c.args.out.now c.fill_all.new.out (first_code v u place w env m n) (length (value_literals env.scope v)) r (m + first_jumps v))) (sym made)
    (c.fill_all.ensures.code all place (slots_at table layouts d.layouts.items c.slots_of-slots.result all c.as_slice.ensures.value slots) hp w env m n is kinds hk hd)

pub first_value-returns-in-Many-clause-keeps : goal.first_value-returns-in-Many-clause-keeps
first_value-returns-in-Many-clause-keeps t c = c.fill_all.ensures.keeps

pub fill_all-loop-i-init : goal.fill_all-loop-i-init
fill_all-loop-i-init t c = going_begun c.args.here.now c.args.structs.now c.args.out.now c.args.slots c.args.at c.args.k c.args.d c.args.values.now.items.items

pub fill_all-slot_type-requires : goal.fill_all-slot_type-requires
fill_all-slot_type-requires t c =
    let sl = c.requires.slots in
    (sl.0, slots_kept c.args.out.now.types c.loop-i.out.types c.args.here.now.declared.layouts.items c.args.slots sl.0 c.loop-i.invariant.keeps.grows sl.1)

pub fill_all-first_value-requires : goal.fill_all-first_value-requires
fill_all-first_value-requires t c =
    let h = c.requires.holds in
    let sl = c.requires.slots in
    let g = c.loop-i.invariant in
    let old = c.args.out.now in
    let now = c.loop-i.out in
    let new = c.slot_type.new.out in
    let d = c.args.here.now.declared in
    let keeps = keeps_then g.keeps (kept c.in_ok-ty.ensures.still) in (
      first_of (search (rules, the_lemmas), grind (the_lemmas, arith, common_steps), grind (the_lemmas, arith, elements)),
      (some_on old new d keeps h, (type_or_nothing (first_slot (behind c.loop-i.i sl.0)), c.in_ok-ty.ensures.ty sl.0 (slots_kept old.types now.types d.layouts.items c.args.slots sl.0 g.keeps.grows sl.1))),
    )

pub fill_all-words-size-requires : goal.fill_all-words-size-requires
fill_all-words-size-requires t c =
    let sl = c.requires.slots in
    let n = c.in_ok-ty.ty in
    let u = type_or_nothing (first_slot (behind c.loop-i.i sl.0)) in
    let has = c.in_ok-ty.ensures.ty sl.0 (slots_kept c.args.out.now.types c.loop-i.out.types c.args.here.now.declared.layouts.items c.args.slots sl.0 c.loop-i.invariant.keeps.grows sl.1) in
    type_within c.first_value.new.out.types n u (c.in_ok-block.ensures.keeps.grows n (OneType u) has)

pub fill_all-loop-i-preserved : goal.fill_all-loop-i-preserved
fill_all-loop-i-preserved t c =
    let items = c.args.values.now.items.items in
    let here = c.args.here.now in
    let i = c.loop-i.i in
    let v = c.index-value.result.now in
    let e = c.first_value.new.out in
    let count : c.len-count.result ≡ length items = omega arith in
    let within : i < length items = omega arith in
    goes_on here c.args.structs.now c.args.out.now c.loop-i.out c.slot_type.new.out e c.args.slots c.args.at c.args.k c.args.d i c.loop-i.place c.loop-i.block c.plus-place.result c.in_ok-block.block c.in_ok-ty.ty c.get.result items v
    c.loop-i.invariant (drop_at items i v within c.index-value.ensures)
    c.in_ok-ty.ensures.still c.in_ok-block.ensures.keeps
    (λ s are. c.in_ok-ty.ensures.ty s are)
    (λ u p has hp w env m n is kinds hk hd. c.in_ok-block.ensures.code u p has hp w env m n is kinds hk hd)
    (λ u tags has are.
    let counts = c.words-size.ensures u tags has (subst (λ (ls : List Layout). AreLayouts e.types ls tags) (sym c.as_slice.ensures.value) are) in
    low_number c.get.result (words_of tags u) (c.get.ensures.value ∙ c.low.ensures (words_of tags u) counts))
    (λ x y hx hy. c.plus-place.ensures x y hx hy)

pub fill_all-clear-requires : goal.fill_all-clear-requires
fill_all-clear-requires t c =
    let sl = c.requires.slots in
    (sl.0, slots_kept c.args.out.now.types c.loop-i.out.types c.args.here.now.declared.layouts.items c.args.slots sl.0 c.loop-i.invariant.keeps.grows sl.1)

pub fill_all-returns-clause-code : goal.fill_all-returns-clause-code
fill_all-returns-clause-code t c = λ s place are hp w env m n is kinds hk hd.
    let items = c.args.values.now.items.items in
    let now = c.loop-i.out in
    let i = c.loop-i.i in
    let new = c.clear.new.out in
    let count : c.len-count.result ≡ length items = omega arith in
    let past : length items ≤ i = omega arith in
    let same : c.len-count.result ≡ i = omega arith in
    going_done c.args.here.now c.args.structs.now c.args.out.now now new c.args.slots c.args.at c.args.k c.args.d i c.loop-i.place c.loop-i.block items s place w env m n
    c.loop-i.invariant past are hp is kinds hk hd
    (λ p are_now kinds_now told.
    subst (λ (j : ℕ). Emits now new (spelled (replicate (length (slot_kinds env.scope.tags (behind j s))) 0) p) 0) same (c.in_ok-clear.ensures.code s env.scope.tags p are_now kinds_now told))

pub fill_all-returns-clause-keeps : goal.fill_all-returns-clause-keeps
fill_all-returns-clause-keeps t c = keeps_then c.loop-i.invariant.keeps c.in_ok-clear.ensures.keeps
