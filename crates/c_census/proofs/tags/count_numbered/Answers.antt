use Rattle.std.proofs.Common.{◌≡◌, ◌<◌, ◌+◌, ℕ, List, length, set, refl, ap, ◌∙◌, arith}
use Rattle.std.specs.Prelude.{vec_len}
use Rattle.c_syntax.specs.View.{decls_of, tag_of}
use Rattle.c_types.specs.Types.{Unfinished}
use Rattle.c_types.specs.Declarations.{with_tag}
use Rattle.c_types.specs.Census.{members_sum}
use Rattle.c_layouts.specs.declared.layout.Layout.{Layout}
use Rattle.c_layouts.specs.declared.layout.Layout.TheVariants as layout
use Rattle.c_operands.specs.declared.declarations.Declarations.{Declarations}
use Rattle.c_declared.proofs.HeldLemmas.{holds_kept}
use Rattle.c_declared.proofs.TagLemmas.{set_back, layouts_back}
use Rattle.c_declarations.proofs.TagLemmas.{inner, within_set, tag_within, tag_open}
use Rattle.c_census.proofs.TagLemmas.{tag_counted}
use Rattle.c_census.proofs.tags.count_numbered.Goals as goal

pub open_tag-before-requires : goal.open_tag-before-requires
open_tag-before-requires c =
    let h = c.requires.holds in
    omega (arith, tag_within c.args.types.now c.args.declared.now h.0 c.args.number c.args.tag.now.name h.1 c.requires.numbered, c.args.declared.now.layouts.ok.0)

pub count_members-requires : goal.count_members-requires
count_members-requires c =
    let h = c.requires.holds in
    let d = c.args.declared.now in
    let e : Declarations = record { alloc = d.alloc; layouts = c.open_tag-before.new.layouts; names = d.names; defined = d.defined } in
    let tag = tag_of c.args.tag.now in (
      inner h.0 tag,
      tag_open c.args.types.now d e h.0 c.args.number tag c.requires.numbered (tag_within c.args.types.now d h.0 c.args.number tag.name h.1 c.requires.numbered) c.open_tag-before.ensures.opened refl refl h.1,
    )

pub close_tag-requires : goal.close_tag-requires
close_tag-requires c =
    let h = c.requires.holds in
    let d = c.args.declared.now in
    let within = within_set d.layouts.items c.open_tag-before.new.layouts.items c.args.number layout.Unfinished c.open_tag-before.ensures.opened
    (tag_within c.args.types.now d h.0 c.args.number c.args.tag.now.name h.1 c.requires.numbered) in
    omega (arith, within, c.open_tag-before.new.layouts.ok.0)

pub returns-clause-counted : goal.returns-clause-counted
returns-clause-counted c =
    let old = c.args.types.now in
    let new = c.count_members.new.types in
    let d = c.args.declared.now in
    let n = c.args.number in
    let tag = tag_of c.args.tag.now in
    let e : Declarations = record { alloc = d.alloc; layouts = c.open_tag-before.new.layouts; names = d.names; defined = d.defined } in
    tag_counted old new d e c.node.result c.node-2.result c.in_ok-members.members c.plus.result c.plus-2.result tag c.node.ensures c.node-2.ensures
    (λ s holds. tag_open old d e s n tag c.requires.numbered (tag_within old d s n tag.name holds c.requires.numbered) c.open_tag-before.ensures.opened refl refl holds)
    c.in_ok-members.ensures c.plus.ensures c.plus-2.ensures

pub returns-clause-holds : goal.returns-clause-holds
returns-clause-holds c = λ s holds.
    let old = c.args.types.now in
    let new = c.count_members.new.types in
    let d = c.args.declared.now in
    let n = c.args.number in
    let f : Declarations = record { alloc = d.alloc; layouts = c.close_tag.new.layouts; names = d.names; defined = d.defined } in
    let layouts = c.close_tag.ensures ∙ ap (λ (l : List Layout). set l n c.open_tag-before.result) c.open_tag-before.ensures.opened in
    layouts_back new d f s (layouts ∙ set_back d.layouts.items n layout.Unfinished c.open_tag-before.result c.open_tag-before.ensures.known) refl refl
    (holds_kept old new d s c.in_ok-members.ensures.grows c.in_ok-members.ensures.tags holds)
