use Rattle.std.proofs.Common.{◌≡◌, ◌<◌, ◌≤◌, ◌++◌, ℕ, length, replicate, Some, sym, ap, subst, ◌∙◌, arith, rules}
use Rattle.std.proofs.lemmas.Grind.{common_steps, elements}
use Rattle.std.specs.Prelude.{OnOk}
use Rattle.c_syntax.specs.Plain.{CValue}
use Rattle.c_syntax.specs.View.{value_of}
use Rattle.c_syntax.specs.declared.tree.Value.{Value}
use Rattle.c_syntax.specs.declared.tree.Value.TheFolds.{the_lemmas}
use Rattle.c_types.specs.Declarations.{slots_of, first_slot}
use Rattle.c_declared.specs.Slots.{behind}
use Rattle.c_declared.proofs.ValueRows.{braces_made}
use Rattle.c_declarations.proofs.GoingLemmas.{slots_held, slots_at, drop_at}
use Rattle.c_cells.proofs.StructLemmas.{struct_kinds_kept}
use Rattle.c_eval.specs.Environment.{type_or_nothing, slot_kinds}
use Rattle.c_eval.specs.LiteralsIn.{value_literals}
use Rattle.c_eval.specs.Text.{static_cells}
use Rattle.c_static.specs.Forms.{IsQuietValue}
use Rattle.c_static.proofs.CellLemmas.{slots_kept}
use Rattle.c_lowered.specs.Whole.{words_from}
use Rattle.c_applied.proofs.LeadsLemmas.{kept, keeps_then, some_on, on_ok}
use Rattle.c_lower_data.specs.Statics.{AddsWords}
use Rattle.c_lower_data.proofs.StaticLemmas.{always, going_begun, goes_on, going_done}
use Rattle.c_lower_data.proofs.statics.+words.Goals as goal

pub add_first_words-slots_of-slots-requires : goal.add_first_words-slots_of-slots-requires
add_first_words-slots_of-slots-requires t c = (Some c.requires.ty.0, c.requires.ty.1)

pub add_first_words-add_all-requires : goal.add_first_words-add_all-requires
add_first_words-add_all-requires t c =
    let h = c.requires.holds in
    let ty = c.requires.ty in
    let table = c.args.out.now.types in
    let d = c.args.here.now.declared in
    let layouts = c.as_slice.result.now in
    let slots = slots_held table d h.0 layouts (Some c.args.ty) (Some ty.0) c.slots_of-slots.result c.as_slice.ensures.value h.1 ty.1 c.slots_of-slots.ensures in (
      first_of (search (rules, the_lemmas), grind (the_lemmas, arith, common_steps), grind (the_lemmas, arith, elements)),
      (h, (slots_of h.0.tags (Some ty.0), slots_at table layouts d.layouts.items c.slots_of-slots.result (slots_of h.0.tags (Some ty.0)) c.as_slice.ensures.value slots)),
    )

pub add_first_words-returns-in-One-clause-words : goal.add_first_words-returns-in-One-clause-words
add_first_words-returns-in-One-clause-words t c = λ u w env has at kinds quiet.
    subst (λ (v : Value). OnOk c.add_one.result (AddsWords c.args.out.now c.add_one.new.out c.args.words.now.items c.add_one.new.words.items w (static_cells (value_of v) u env) (value_literals env.scope (value_of v)))) (sym c.in-One.is)
    (c.add_one.ensures.words u w env has at (subst (λ (v : Value). IsQuietValue env.scope (value_of v)) c.in-One.is quiet))

pub add_first_words-returns-in-One-clause-keeps : goal.add_first_words-returns-in-One-clause-keeps
add_first_words-returns-in-One-clause-keeps t c = c.add_one.ensures.keeps

pub add_first_words-returns-in-Many-clause-words : goal.add_first_words-returns-in-Many-clause-words
add_first_words-returns-in-Many-clause-words t c = λ u w env has at kinds quiet.
    let table = c.args.out.now.types in
    let d = c.args.here.now.declared in
    let layouts = c.as_slice.result.now in
    let vs = c.in-Many.values in
    let all = slots_of env.scope.tags (Some u) in
    let slots = slots_held table d env.scope layouts (Some c.args.ty) (Some u) c.slots_of-slots.result c.as_slice.ensures.value at.here.holds has c.slots_of-slots.ensures in
    let made = ap (λ (v : Value). value_of v) c.in-Many.is ∙ braces_made vs in
    subst (λ (v : CValue). OnOk c.add_all.result (AddsWords c.args.out.now c.add_all.new.out c.args.words.now.items c.add_all.new.words.items w (static_cells v u env) (value_literals env.scope v))) (sym made)
    (c.add_all.ensures.words all w env (slots_at table layouts d.layouts.items c.slots_of-slots.result all c.as_slice.ensures.value slots) at kinds (subst (λ (v : CValue). IsQuietValue env.scope v) made quiet))

pub add_first_words-returns-in-Many-clause-keeps : goal.add_first_words-returns-in-Many-clause-keeps
add_first_words-returns-in-Many-clause-keeps t c = c.add_all.ensures.keeps

pub add_all-loop-i-init : goal.add_all-loop-i-init
add_all-loop-i-init t c = going_begun c.args.here.now c.args.structs.now c.args.out.now c.args.slots c.args.values.now.items.items c.args.words.now.items

pub add_all-slot_type-requires : goal.add_all-slot_type-requires
add_all-slot_type-requires t c =
    let sl = c.requires.slots in
    (sl.0, slots_kept c.args.out.now.types c.loop-i.out.types c.args.here.now.declared.layouts.items c.args.slots sl.0 c.loop-i.invariant.keeps.grows sl.1)

pub add_all-add_first_words-requires : goal.add_all-add_first_words-requires
add_all-add_first_words-requires t c =
    let h = c.requires.holds in
    let sl = c.requires.slots in
    let g = c.loop-i.invariant in
    let old = c.args.out.now in
    let now = c.loop-i.out in
    let new = c.slot_type.new.out in
    let d = c.args.here.now.declared in
    let keeps = keeps_then g.keeps (kept c.in_ok-ty.ensures.still) in (
      first_of (search (rules, the_lemmas), grind (the_lemmas, arith, common_steps), grind (the_lemmas, arith, elements)),
      (some_on old new d keeps h, (type_or_nothing (first_slot (behind c.loop-i.i sl.0)), c.in_ok-ty.ensures.ty sl.0 (slots_kept old.types now.types d.layouts.items c.args.slots sl.0 g.keeps.grows sl.1))),
    )

pub add_all-loop-i-preserved : goal.add_all-loop-i-preserved
add_all-loop-i-preserved t c =
    let items = c.args.values.now.items.items in
    let i = c.loop-i.i in
    let v = c.index-value.result.now in
    let count : c.len-count.result ≡ length items = omega arith in
    let within : i < length items = omega arith in
    goes_on c.args.here.now c.args.structs.now c.args.out.now c.loop-i.out c.slot_type.new.out c.add_first_words.new.out c.args.slots i c.in_ok-ty.ty items v c.args.words.now.items c.loop-i.words.items c.add_first_words.new.words.items
    c.loop-i.invariant (drop_at items i v within c.index-value.ensures) c.in_ok-ty.ensures.still c.in_ok-add_first_words.ensures.keeps (λ s are. c.in_ok-ty.ensures.ty s are)
    (λ u w env has at kinds quiet. c.in_ok-add_first_words.ensures.words u w env has at kinds quiet)

pub add_all-add_rest-requires : goal.add_all-add_rest-requires
add_all-add_rest-requires t c =
    let sl = c.requires.slots in
    (sl.0, slots_kept c.args.out.now.types c.loop-i.out.types c.args.here.now.declared.layouts.items c.args.slots sl.0 c.loop-i.invariant.keeps.grows sl.1)

pub add_all-returns-clause-words : goal.add_all-returns-clause-words
add_all-returns-clause-words t c = λ s w env are at kinds quiet.
    let items = c.args.values.now.items.items in
    let old = c.args.out.now in
    let now = c.loop-i.out in
    let i = c.loop-i.i in
    let g = c.loop-i.invariant in
    let words = c.loop-i.words.items in
    let new = c.add_rest.new.words.items in
    let count : c.len-count.result ≡ length items = omega arith in
    let past : length items ≤ i = omega arith in
    let same : c.len-count.result ≡ i = omega arith in
    on_ok c.add_rest.result (λ rest.
    going_done c.args.here.now c.args.structs.now old now c.args.slots i items c.args.words.now.items words new s w env g past are at kinds quiet
    (subst (λ (j : ℕ). new ≡ words ++ words_from (replicate (length (slot_kinds env.scope.tags (behind j s))) 0)) same rest))
    (c.add_rest.ensures s env.scope.tags (slots_kept old.types now.types c.args.here.now.declared.layouts.items c.args.slots s g.keeps.grows are) (struct_kinds_kept old.types now.types c.args.structs.now env.scope.tags g.keeps.tags kinds))

pub add_all-returns-clause-keeps : goal.add_all-returns-clause-keeps
add_all-returns-clause-keeps t c = always c.add_rest.result c.loop-i.invariant.keeps
