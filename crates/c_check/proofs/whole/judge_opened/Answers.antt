use Rattle.std.proofs.Common.{◌≡◌, ℕ, List, map, refl, sym, ap, subst, ◌∙◌}
use Rattle.std.specs.Prelude.{true}
use Rattle.std.specs.List.{list_any}
use Rattle.c_syntax.specs.View.{item_of, unit_of}
use Rattle.c_syntax.specs.declared.tree.Item.{Item}
use Rattle.c_types.specs.Scope.{contains}
use Rattle.c_types.specs.Units.{start_scope, is_main}
use Rattle.c_opening.specs.Named.{tags_in, HasNumber}
use Rattle.c_check.specs.Items.{AreTaken}
use Rattle.c_check.proofs.whole.judge_opened.Goals as goal

pub take_items-requires-clause-holds : goal.take_items-requires-clause-holds
take_items-requires-clause-holds c = (start_scope (unit_of c.args.unit.now), c.requires.holds)

pub take_items-requires-clause-numbered : goal.take_items-requires-clause-numbered
take_items-requires-clause-numbered c =
    subst (λ (l : List Item). (name : List ℕ) → contains (tags_in (map item_of l)) name ≡ true → HasNumber c.args.types name) (sym c.as_slice-items.ensures.value) c.requires.numbered

pub returns : goal.returns
returns c =
    let u = unit_of c.args.unit.now in
    let items = c.as_slice-items.ensures.value in
    let are = subst (λ (l : List Item). AreTaken c.in_ok-taken.taken (start_scope u) (map item_of l)) items (c.in_ok-taken.ensures (start_scope u) c.requires.holds) in
    c.answer.ensures u are (c.has_main.ensures ∙ ap (λ (l : List Item). list_any is_main (map item_of l)) items) refl
