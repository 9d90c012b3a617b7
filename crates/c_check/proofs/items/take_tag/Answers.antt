use Rattle.std.proofs.Common.{◌≡◌, ◌+◌, ℕ, List, sym, ap, subst, ◌∙◌, refl}
use Rattle.std.specs.Prelude.{Some, slice_get, nat_lt}
use Rattle.c_syntax.specs.View.{tag_of, decls_of}
use Rattle.c_types.specs.Types as types
use Rattle.c_types.specs.Types.{Unfinished}
use Rattle.c_types.specs.Declarations.{scope_or, tag_declared, with_tag}
use Rattle.c_types.specs.Census.{members_sum}
use Rattle.c_types.specs.Limits.{wide_types}
use Rattle.c_declared.proofs.HeldLemmas.{holds_kept}
use Rattle.c_weights.specs.declared.sum.Sum.{Sum}
use Rattle.c_check.proofs.ItemLemmas.{tag_sums}
use Rattle.c_check.proofs.items.take_tag.Goals as goal

pub declare_tag-requires-clause-holds : goal.declare_tag-requires-clause-holds
declare_tag-requires-clause-holds c =
    let h = c.requires.holds in
    (h.0, c.in_ok-parts.ensures.holds h.0 h.1)

pub declare_tag-requires-clause-numbered : goal.declare_tag-requires-clause-numbered
declare_tag-requires-clause-numbered c =
    let n = c.requires.numbered in
    (n.0, ap (λ (l : List (List ℕ)). slice_get l n.0) c.in_ok-parts.ensures.counted.tags ∙ n.1)

pub tag_is_wide-requires : goal.tag_is_wide-requires
tag_is_wide-requires c =
    let n = c.requires.numbered in
    (n.0, ap (λ (l : List (List ℕ)). slice_get l n.0) (c.in_ok-refusal.ensures.tags ∙ c.in_ok-parts.ensures.counted.tags) ∙ (n.1 ∙ ap Some (sym c.as_bytes.ensures)))

pub returns : goal.returns
returns c =
    let m = c.in_ok-parts.ensures in
    let r = c.in_ok-refusal.ensures in
    let w = c.in_ok-is_wide.ensures in
    let tag = tag_of c.args.tag.now in
    let own : Sum = record { weight = c.of.result; is_wide = c.in_ok-is_wide.is_wide; nodes = 0; words = 0 } in
    record {
      refusal = λ s holds. r.judged s (m.holds s holds);
      sums = λ s holds.
          let behind = scope_or s (tag_declared s tag) in
          let wide = w.wide behind (r.holds s (m.holds s holds)) ∙ ap (λ (n : List ℕ). nat_lt 0 (wide_types behind.tags (types.Struct n))) c.as_bytes.ensures in
          tag_sums c.in_ok-parts.parts own c.plus.result s behind tag.name (λ k. k.node + k.node + members_sum k (with_tag s tag.name Unfinished) tag.members) (m.counted.sums s holds) c.of.ensures wide refl refl c.plus.ensures;
      words = λ s holds. c.of-2.ensures;
      holds = λ s holds. holds_kept c.declare_tag.new.types c.tag_is_wide.new.types c.declare_tag.new.declared (scope_or s (tag_declared s tag)) w.grows w.tags (r.holds s (m.holds s holds));
      tags = w.tags ∙ (r.tags ∙ m.counted.tags);
    }
