use Rattle.std.proofs.Common.{ℕ, List, map, sym, ap, ◌∙◌}
use Rattle.c_syntax.specs.View.{item_of}
use Rattle.c_syntax.specs.declared.tree.Item.{Item}
use Rattle.c_types.specs.Scope.{contains}
use Rattle.c_types.specs.Table.{texts}
use Rattle.c_opening.specs.Named.{tags_in}
use Rattle.c_opening.proofs.OpeningLemmas.{numbered}
use Rattle.c_opening.proofs.opening.open_named.Goals as goal

pub returns-clause-numbered : goal.returns-clause-numbered
returns-clause-numbered c = λ name h.
    numbered c.in_ok-opening.opening.types.tags name
    (ap (λ (l : List (List ℕ)). contains l name) c.in_ok-opening.ensures.tags
    ∙ (c.in_ok-tags.ensures name ∙ (ap (λ (l : List Item). contains (tags_in (map item_of l)) name) c.as_slice.ensures.value ∙ h)))

pub returns-clause-names : goal.returns-clause-names
returns-clause-names c = ap texts (c.in_ok-names.ensures.items ∙ c.as_slice-2.ensures.keys) ∙ sym c.in_ok-opening.ensures.tags
