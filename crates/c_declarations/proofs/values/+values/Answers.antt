use Rattle.std.proofs.Common.{◌≡◌, ◌<◌, ◌≤◌, ℕ, length, Option, sym, ap, subst, ◌∙◌, arith, rules}
use Rattle.std.proofs.lemmas.Grind.{common_steps, elements}
use Rattle.std.specs.Prelude.{IfOk}
use Rattle.std.specs.Result.{result_err}
use Rattle.c_syntax.specs.View.{value_of}
use Rattle.c_syntax.specs.declared.tree.Value.{Value}
use Rattle.c_syntax.specs.declared.tree.Value.TheFolds.{the_lemmas}
use Rattle.c_types.specs.Declarations.{fitting, slots_of, first_slot}
use Rattle.c_declared.specs.Slots.{behind}
use Rattle.c_declared.proofs.ValueRows.{braces_made, braces_counted}
use Rattle.c_declared.proofs.HeldLemmas.{holds_kept}
use Rattle.c_declarations.specs.Sites.{site_of, values_of}
use Rattle.c_declarations.proofs.GoingLemmas.{braces_fit, type_or_none_kept, slots_held, slots_at, begun, goes_on, done, drop_at}
use Rattle.c_declarations.proofs.values.+values.Goals as goal

pub fit-fit_all-requires : goal.fit-fit_all-requires
fit-fit_all-requires t c =
    let h = c.requires.holds in
    let ty = c.requires.ty in
    let table = c.args.types.now in
    let d = c.args.declared.now in
    let layouts = c.as_slice-layouts.result.now in
    let slots = slots_held table d h.0 layouts c.args.ty ty.0 c.slots_of-slots.result c.as_slice-layouts.ensures.value h.1 ty.1 c.slots_of-slots.ensures in (
      first_of (search (rules, the_lemmas), grind (the_lemmas, arith, common_steps), grind (the_lemmas, arith, elements)),
      (h, (slots_of h.0.tags ty.0, slots_at table layouts d.layouts.items c.slots_of-slots.result (slots_of h.0.tags ty.0) c.as_slice-layouts.ensures.value slots)),
    )

pub fit-returns-in-One-clause-told : goal.fit-returns-in-One-clause-told
fit-returns-in-One-clause-told t c = λ s u holds ty.
    subst (λ (v : Value). IfOk c.fit_one.result (λ r. r ≡ result_err (fitting s (site_of c.args.site) u (value_of v)))) (sym c.in-One.is) (c.fit_one.ensures.told s u holds ty)

pub fit-returns-in_ok-parts-in-Many-clause-told : goal.fit-returns-in_ok-parts-in-Many-clause-told
fit-returns-in_ok-parts-in-Many-clause-told t c = λ s u holds ty.
    let table = c.args.types.now in
    let d = c.args.declared.now in
    let layouts = c.as_slice-layouts.result.now in
    let site = site_of c.args.site in
    let vs = c.in-Many.values in
    let all = slots_of s.tags u in
    let slots = slots_held table d s layouts c.args.ty u c.slots_of-slots.result c.as_slice-layouts.ensures.value holds ty c.slots_of-slots.ensures in
    let count : c.len-count.result ≡ length vs.items.items = omega arith in
    let parts = c.in_ok-parts-in-Many.ensures.told s all holds (slots_at table layouts d.layouts.items c.slots_of-slots.result all c.as_slice-layouts.ensures.value slots) in
    let own = c.braces_fault-own.ensures table all (values_of vs) slots (braces_counted vs.items.items c.len-count.result count) in
    braces_fit s site u (values_of vs) c.in_ok-parts-in-Many.parts c.braces_fault-own.result c.merged_behind.result c.merged_behind.ensures parts own
    ∙ sym (ap (λ v. result_err (fitting s site u v)) (ap (λ (v : Value). value_of v) c.in-Many.is ∙ braces_made vs))

pub fit_all-loop-k-init : goal.fit_all-loop-k-init
fit_all-loop-k-init t c = begun c.args.types.now c.args.declared.now (site_of c.args.site) c.args.slots c.args.values.now.items.items

pub fit_all-fit-requires : goal.fit_all-fit-requires
fit_all-fit-requires t c =
    let h = c.requires.holds in
    let sl = c.requires.slots in
    let g = c.loop-k.invariant in
    let old = c.args.types.now in
    let now = c.loop-k.types in
    let d = c.args.declared.now in
    let slot = c.at-ty.ensures old sl.0 (slots_at old d.layouts.items c.as_slice-layouts.result.now c.args.slots sl.0 (sym c.as_slice-layouts.ensures.value) sl.1) in (
      first_of (search (rules, the_lemmas), grind (the_lemmas, arith, common_steps), grind (the_lemmas, arith, elements)),
      ((h.0, holds_kept old now d h.0 g.grows g.tags h.1), (first_slot (behind c.loop-k.k sl.0), type_or_none_kept old now c.at-ty.result (first_slot (behind c.loop-k.k sl.0)) g.grows slot)),
    )

pub fit_all-loop-k-preserved : goal.fit_all-loop-k-preserved
fit_all-loop-k-preserved t c =
    let old = c.args.types.now in
    let d = c.args.declared.now in
    let items = c.args.values.now.items.items in
    let k = c.loop-k.k in
    let v = c.index-value.result.now in
    let count : c.len-count.result ≡ length items = omega arith in
    let within : k < length items = omega arith in
    goes_on old c.loop-k.types c.fit.new.types d (site_of c.args.site) c.args.slots c.loop-k.told c.in_ok-refusal.refusal c.merged-told.result k items v c.at-ty.result
    c.loop-k.invariant (drop_at items k v within c.index-value.ensures)
    (λ s are. c.at-ty.ensures old s (slots_at old d.layouts.items c.as_slice-layouts.result.now c.args.slots s (sym c.as_slice-layouts.ensures.value) are))
    c.in_ok-refusal.ensures.told c.in_ok-refusal.ensures.grows c.in_ok-refusal.ensures.tags c.merged-told.ensures

pub fit_all-returns-clause-told : goal.fit_all-returns-clause-told
fit_all-returns-clause-told t c = λ s all holds are.
    let items = c.args.values.now.items.items in
    let count : c.len-count.result ≡ length items = omega arith in
    let past : length items ≤ c.loop-k.k = omega arith in
    done c.args.types.now c.loop-k.types c.args.declared.now (site_of c.args.site) c.args.slots c.loop-k.told c.loop-k.k items s all c.loop-k.invariant past holds are
