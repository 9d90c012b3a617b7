-- Sums of tags.
use Rattle.std.proofs.Common.{◌≡◌, ℕ, ◌+◌, ◌∙◌}
use Rattle.c_syntax.specs.Plain.{CTag}
use Rattle.c_types.specs.Scope.{Scope}
use Rattle.c_types.specs.Census.{Tally, members_sum}
use Rattle.c_types.specs.Table.{Table}
use Rattle.c_operands.specs.declared.declarations.Declarations.{Declarations}
use Rattle.c_declared.specs.Held.{Holds}
use Rattle.c_declarations.proofs.TagLemmas.{inner}
use Rattle.c_weights.specs.declared.sum.Sum.{Sum}
use Rattle.c_weights.specs.Sums.{Sums, AreCounted}

-- two nodes and the members, which are summed while they aren't closed
pub tag_counted : (old new : Table) (d e : Declarations) (one two members a r : Sum) (tag : CTag) → Sums one (λ k. k.node) → Sums two (λ k. k.node) → ((s : Scope) → Holds old d s → Holds old e (inner s tag))
    → AreCounted old new e members (λ s k. members_sum k s tag.members) → ((m n : Tally → ℕ) → Sums one m → Sums two n → Sums a (λ k. m k + n k)) → ((m n : Tally → ℕ) → Sums a m → Sums members n → Sums r (λ k. m k + n k))
    → AreCounted old new d r (λ s k. k.node + k.node + members_sum k (inner s tag) tag.members)
tag_counted old new d e one two members a r tag p q begins h plus_a plus_r = record {
  sums = λ s holds. plus_r (λ k. k.node + k.node) (λ k. members_sum k (inner s tag) tag.members) (plus_a (λ k. k.node) (λ k. k.node) p q) (h.sums (inner s tag) (begins s holds));
  grows = h.grows;
  tags = h.tags;
}
