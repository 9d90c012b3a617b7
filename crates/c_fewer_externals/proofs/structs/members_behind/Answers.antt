use Rattle.std.proofs.Common.{List, refl, sym, ap, ◌∙◌, set, arith}
use Rattle.c_syntax.specs.View.{tag_of}
use Rattle.c_layouts.specs.declared.layout.Layout.{Layout}
use Rattle.c_layouts.specs.declared.layout.Layout.TheVariants.{Unfinished}
use Rattle.c_operands.specs.declared.declarations.Declarations.{Declarations}
use Rattle.c_declared.proofs.HeldLemmas.{holds_kept}
use Rattle.c_declared.proofs.TagLemmas.{layouts_back, set_back}
use Rattle.c_declarations.proofs.TagLemmas.{inner, within_set, tag_within, tag_open}
use Rattle.c_fewer_externals.proofs.structs.members_behind.Goals as goal

pub open_tag-before-requires : goal.open_tag-before-requires
open_tag-before-requires c =
    let h = c.requires.stands in
    let d = c.args.here.now.declared in
    omega (arith, tag_within c.args.types.now d h.0 c.args.number c.args.tag.now.name h.1.holds c.requires.numbered, d.layouts.ok.0)

pub fewer_in_members-requires : goal.fewer_in_members-requires
fewer_in_members-requires c =
    let h = c.requires.stands in
    let d = c.args.here.now.declared in
    let e : Declarations = record { alloc = d.alloc; layouts = c.open_tag-before.new.layouts; names = d.names; defined = d.defined } in
    let tag = tag_of c.args.tag.now in
    let within = tag_within c.args.types.now d h.0 c.args.number tag.name h.1.holds c.requires.numbered in
    (inner h.0 tag, record { fits = (tag_open c.args.types.now d e h.0 c.args.number tag c.requires.numbered within c.open_tag-before.ensures.opened refl refl h.1.holds).fits; names = h.1.names })

pub close_tag-requires : goal.close_tag-requires
close_tag-requires c =
    let h = c.requires.stands in
    let d = c.args.here.now.declared in
    let within = within_set d.layouts.items c.open_tag-before.new.layouts.items c.args.number Unfinished c.open_tag-before.ensures.opened
    (tag_within c.args.types.now d h.0 c.args.number c.args.tag.now.name h.1.holds c.requires.numbered) in
    omega (arith, within, c.open_tag-before.new.layouts.ok.0)

pub returns-clause-trees : goal.returns-clause-trees
returns-clause-trees c = λ s stands.
    let d = c.args.here.now.declared in
    let e : Declarations = record { alloc = d.alloc; layouts = c.open_tag-before.new.layouts; names = d.names; defined = d.defined } in
    let tag = tag_of c.args.tag.now in
    let within = tag_within c.args.types.now d s c.args.number tag.name stands.holds c.requires.numbered in
    let held = tag_open c.args.types.now d e s c.args.number tag c.requires.numbered within c.open_tag-before.ensures.opened refl refl stands.holds in
    c.in_ok-members.ensures.trees (inner s tag) (record { fits = held.fits; names = stands.names })

pub returns-clause-stands : goal.returns-clause-stands
returns-clause-stands c = λ s stands.
    let old = c.args.types.now in
    let new = c.fewer_in_members.new.types in
    let d = c.args.here.now.declared in
    let n = c.args.number in
    let before = c.open_tag-before.result in
    let e : Declarations = record { alloc = d.alloc; layouts = c.close_tag.new.layouts; names = d.names; defined = d.defined } in
    let layouts = c.close_tag.ensures ∙ (ap (λ (l : List Layout). set l n before) c.open_tag-before.ensures.opened ∙ set_back d.layouts.items n Unfinished before c.open_tag-before.ensures.known) in
    record {
      holds = layouts_back new d e s layouts refl refl (holds_kept old new d s c.in_ok-members.ensures.grows c.in_ok-members.ensures.tags stands.holds);
      names = stands.names ∙ sym c.in_ok-members.ensures.tags;
    }

pub returns-clause-grows : goal.returns-clause-grows
returns-clause-grows c = c.in_ok-members.ensures.grows

pub returns-clause-tags : goal.returns-clause-tags
returns-clause-tags c = c.in_ok-members.ensures.tags
