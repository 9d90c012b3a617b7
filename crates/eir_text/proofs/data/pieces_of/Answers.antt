use Rattle.std.proofs.Common.{◌∙◌, ap, rules}
use Rattle.std.proofs.lemmas.List.Sorted.{answers_always, IsNonDecreasingBy-from_sort_by_key}
use Rattle.eir_text.specs.Layout.{by_number}
use Rattle.eir_text.proofs.Sorting.{stable_sort}
use Rattle.eir_text.proofs.data.pieces_of.Goals as goal

pub returns-clause-lines : goal.returns-clause-lines
returns-clause-lines c =
    stable_sort _ _ (IsNonDecreasingBy-from_sort_by_key (λ x. x.0) _ c.in_ok-sort_by_key.ensures.sorted (λ a r q k. search rules))
    (c.sort_by_key.ensures.stable (λ x. x.0) (answers_always _ _ _ (λ f a r g h. search rules)))
    ∙ ap by_number c.in_ok-data.ensures.lines
