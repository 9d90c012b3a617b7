use Rattle.std.proofs.Common.{ℕ, List, map, sym, ap, ◌∙◌}
use Rattle.std.specs.Prelude.{slice_get}
use Rattle.c_syntax.specs.View.{decls_of}
use Rattle.c_types.specs.Types.{Unfinished}
use Rattle.c_types.specs.Declarations.{with_tag}
use Rattle.c_fewer_trees.proofs.OnwardLemmas.{Onward, then_on}
use Rattle.c_fewer_externals.proofs.ListLemmas.{kept_first}
use Rattle.c_fewer_externals.proofs.DeclarationLemmas.{tag_is}
use Rattle.c_fewer_externals.proofs.structs.fewer_in_struct.Goals as goal

pub declare_tag-requires-clause-holds : goal.declare_tag-requires-clause-holds
declare_tag-requires-clause-holds c =
    let h = c.requires.stands in
    (h.0, (c.in_ok-items.ensures.stands h.0 h.1).holds)

pub declare_tag-requires-clause-numbered : goal.declare_tag-requires-clause-numbered
declare_tag-requires-clause-numbered c =
    let n = c.requires.numbered in
    (n.0, ap (λ (l : List (List ℕ)). slice_get l n.0) c.in_ok-items.ensures.tags ∙ n.1)

pub returns-clause-tree : goal.returns-clause-tree
returns-clause-tree c = λ s stands.
    let tag = c.args.tag.now in
    tag_is c.in_ok-name.name tag.name tag.pos (decls_of c.in_ok-items.items.items) (map (kept_first (with_tag s tag.name Unfinished)) (decls_of tag.members.items.items)) c.in_ok-name.ensures (c.in_ok-items.ensures.trees s stands)

pub returns-clause-stands : goal.returns-clause-stands
returns-clause-stands c = λ s stands.
    let mid = c.in_ok-items.ensures.stands s stands in
    record { holds = c.in_ok-declare_tag.ensures.holds s mid.holds; names = mid.names ∙ sym c.in_ok-declare_tag.ensures.tags }

pub returns-clause-grows : goal.returns-clause-grows
returns-clause-grows c =
    let f : Onward c.args.types.now c.members_of.new.types = record { grows = c.in_ok-items.ensures.grows; tags = c.in_ok-items.ensures.tags } in
    let g : Onward c.members_of.new.types c.declare_tag.new.types = record { grows = c.in_ok-declare_tag.ensures.grows; tags = c.in_ok-declare_tag.ensures.tags } in
    (then_on f g).grows

pub returns-clause-tags : goal.returns-clause-tags
returns-clause-tags c = c.in_ok-declare_tag.ensures.tags ∙ c.in_ok-items.ensures.tags
