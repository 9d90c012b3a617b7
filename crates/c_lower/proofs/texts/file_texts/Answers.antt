use Rattle.std.proofs.Common.{◌≡◌, ℕ, List, map, sym, ap, subst, ◌∙◌}
use Rattle.std.specs.Prelude.{true}
use Rattle.c_syntax.specs.View.{item_of, unit_of}
use Rattle.c_syntax.specs.declared.tree.Item.{Item}
use Rattle.c_types.specs.Scope.{contains}
use Rattle.c_types.specs.Units.{start_scope, all_items}
use Rattle.c_eval.specs.Text.{file_start}
use Rattle.c_lowered.specs.Whole.{file_literals}
use Rattle.c_opening.specs.Named.{tags_in, HasNumber}
use Rattle.c_lower.proofs.TextLemmas.{first_ones}
use Rattle.c_lower.proofs.texts.file_texts.Goals as goal

pub take_items-requires-clause-holds : goal.take_items-requires-clause-holds
take_items-requires-clause-holds c = (start_scope (unit_of c.args.unit.now), c.in_ok-opening.ensures.holds)

pub take_items-requires-clause-numbered : goal.take_items-requires-clause-numbered
take_items-requires-clause-numbered c =
    subst (λ (l : List Item). (name : List ℕ) → contains (tags_in (map item_of l)) name ≡ true → HasNumber c.in_ok-opening.opening.types name) (sym c.as_slice-items.ensures.value) c.in_ok-opening.ensures.numbered

pub returns : goal.returns
returns c = λ end typed.
    let u = unit_of c.args.unit.now in
    let items = c.as_slice-items.ensures.value in
    let of = c.in_ok-take_items.ensures (file_start u) end c.in_ok-opening.ensures.holds (ap (λ (l : List Item). all_items (start_scope u) (map item_of l)) items ∙ typed) in
    first_ones c.new-texts.result.items c.take_items.new.texts.items (file_literals (map item_of c.as_slice-items.result.now) (file_start u)) c.new-texts.ensures.items of
    ∙ ap (λ (l : List Item). file_literals (map item_of l) (file_start u)) items
