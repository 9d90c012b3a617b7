use Rattle.std.proofs.Common.{◌≡◌, ℕ, ◌<◌, List, [], length, set, Option, Some, refl, sym, ap, subst, ◌∙◌, if◌then◌else◌, arith}
use Rattle.std.specs.Prelude.{Result, is_some, vec_len}
use Rattle.c_syntax.specs.Words.{meaning}
use Rattle.c_syntax.specs.View.{tag_of}
use Rattle.c_types.specs.declared.fault.TypeFault.{TypeFault}
use Rattle.c_types.specs.Declarations.{members}
use Rattle.c_types.specs.Table.{known}
use Rattle.c_layouts.specs.declared.layout.Layout.{Layout}
use Rattle.c_layouts.specs.declared.layout.Layout.TheVariants.{Unfinished}
use Rattle.c_layouts.specs.Layouts.{LayoutIsThere}
use Rattle.c_operands.specs.Seen.{IsJudged}
use Rattle.c_operands.specs.declared.declarations.Declarations.{Declarations}
use Rattle.c_forms.proofs.PartLemmas.{ok_is, err_is}
use Rattle.c_declarations.specs.Members.{IsClosed}
use Rattle.c_declarations.proofs.TagLemmas.{inner, within_set, tag_within, tag_open, tag_kept, tag_refused, tag_settled, tag_back}
use Rattle.c_declarations.proofs.tags.declare_numbered.Goals as goal

pub open_tag-before-requires : goal.open_tag-before-requires
open_tag-before-requires c =
    let h = c.requires.holds in
    omega (arith, tag_within c.args.types.now c.args.declared.now h.0 c.args.number c.args.tag.now.name h.1 c.requires.numbered, c.args.declared.now.layouts.ok.0)

pub judge_members-requires : goal.judge_members-requires
judge_members-requires c =
    let h = c.requires.holds in
    let d = c.args.declared.now in
    let e : Declarations = record { alloc = d.alloc; layouts = c.open_tag-before.new.layouts; names = d.names; defined = d.defined } in
    let tag = tag_of c.args.tag.now in (
      inner h.0 tag,
      tag_open c.args.types.now d e h.0 c.args.number tag c.requires.numbered (tag_within c.args.types.now d h.0 c.args.number tag.name h.1 c.requires.numbered) c.open_tag-before.ensures.opened refl refl h.1,
    )

pub settle_tag-requires : goal.settle_tag-requires
settle_tag-requires c =
    let h = c.requires.holds in
    let d = c.args.declared.now in
    let within = within_set d.layouts.items c.open_tag-before.new.layouts.items c.args.number Unfinished c.open_tag-before.ensures.opened
    (tag_within c.args.types.now d h.0 c.args.number c.args.tag.now.name h.1 c.requires.numbered) in
    omega (arith, within, c.open_tag-before.new.layouts.ok.0)

pub close_tag-requires : goal.close_tag-requires
close_tag-requires c =
    let h = c.requires.holds in
    let d = c.args.declared.now in
    let within = within_set d.layouts.items c.open_tag-before.new.layouts.items c.args.number Unfinished c.open_tag-before.ensures.opened
    (tag_within c.args.types.now d h.0 c.args.number c.args.tag.now.name h.1 c.requires.numbered) in
    omega (arith, within, c.open_tag-before.new.layouts.ok.0)

pub returns-in-Ok-clause-told : goal.returns-in-Ok-clause-told
returns-in-Ok-clause-told c = λ s holds.
    let old = c.args.types.now in
    let new = c.judge_members.new.types in
    let d = c.args.declared.now in
    let n = c.args.number in
    let tag = tag_of c.args.tag.now in
    let e : Declarations = record { alloc = d.alloc; layouts = c.open_tag-before.new.layouts; names = d.names; defined = d.defined } in
    let within = tag_within old d s n tag.name holds c.requires.numbered in
    let held = tag_open old d e s n tag c.requires.numbered within c.open_tag-before.ensures.opened refl refl holds in
    let p = members (inner s tag) [] tag.members in
    let k = ok_is (IsClosed (known new) (inner s tag).tags) c.in-Ok.closed p (subst (λ (r : Result Layout TypeFault). IsJudged (IsClosed (known new) (inner s tag).tags) r p) c.in-Ok.is (c.in_ok-members.ensures.judged (inner s tag) held)) in
    let was = subst (λ (l : Option Layout). LayoutIsThere (known old) l (meaning s.tags tag.name)) c.open_tag-before.ensures.known (holds.fits.layouts n tag.name c.requires.numbered) in
    tag_kept s tag k.0 c.tag_fault-refusal.result k.1 (c.tag_fault-refusal.ensures (known old) s was)

pub returns-in-Ok-clause-holds : goal.returns-in-Ok-clause-holds
returns-in-Ok-clause-holds c = λ s holds.
    let old = c.args.types.now in
    let new = c.judge_members.new.types in
    let d = c.args.declared.now in
    let n = c.args.number in
    let tag = tag_of c.args.tag.now in
    let e : Declarations = record { alloc = d.alloc; layouts = c.open_tag-before.new.layouts; names = d.names; defined = d.defined } in
    let within = tag_within old d s n tag.name holds c.requires.numbered in
    let held = tag_open old d e s n tag c.requires.numbered within c.open_tag-before.ensures.opened refl refl holds in
    let p = members (inner s tag) [] tag.members in
    let k = ok_is (IsClosed (known new) (inner s tag).tags) c.in-Ok.closed p (subst (λ (r : Result Layout TypeFault). IsJudged (IsClosed (known new) (inner s tag).tags) r p) c.in-Ok.is (c.in_ok-members.ensures.judged (inner s tag) held)) in
    let was = subst (λ (l : Option Layout). LayoutIsThere (known old) l (meaning s.tags tag.name)) c.open_tag-before.ensures.known (holds.fits.layouts n tag.name c.requires.numbered) in
    let r = c.tag_fault-refusal.result in
    let layouts = c.settle_tag.ensures.layouts ∙ ap (λ (l : List Layout). set l n (if is_some r then c.open_tag-before.result else c.in-Ok.closed)) c.open_tag-before.ensures.opened in
    tag_settled old new d c.settle_tag.new.declared s n tag c.open_tag-before.result c.in-Ok.closed r k.0 c.in_ok-members.ensures.grows c.in_ok-members.ensures.tags holds c.requires.numbered c.open_tag-before.ensures.known
    layouts c.settle_tag.ensures.names c.settle_tag.ensures.defined k.1 k.2 (c.tag_fault-refusal.ensures (known old) s was)

pub returns-in-Err-clause-told : goal.returns-in-Err-clause-told
returns-in-Err-clause-told c = λ s holds.
    let old = c.args.types.now in
    let new = c.judge_members.new.types in
    let d = c.args.declared.now in
    let n = c.args.number in
    let tag = tag_of c.args.tag.now in
    let e : Declarations = record { alloc = d.alloc; layouts = c.open_tag-before.new.layouts; names = d.names; defined = d.defined } in
    let within = tag_within old d s n tag.name holds c.requires.numbered in
    let held = tag_open old d e s n tag c.requires.numbered within c.open_tag-before.ensures.opened refl refl holds in
    let p = members (inner s tag) [] tag.members in
    tag_refused s tag c.in-Err.told (err_is (IsClosed (known new) (inner s tag).tags) c.in-Err.told p (subst (λ (r : Result Layout TypeFault). IsJudged (IsClosed (known new) (inner s tag).tags) r p) c.in-Err.is (c.in_ok-members.ensures.judged (inner s tag) held)))

pub returns-in-Err-clause-holds : goal.returns-in-Err-clause-holds
returns-in-Err-clause-holds c = λ s holds.
    let old = c.args.types.now in
    let new = c.judge_members.new.types in
    let d = c.args.declared.now in
    let n = c.args.number in
    let tag = tag_of c.args.tag.now in
    let e : Declarations = record { alloc = d.alloc; layouts = c.open_tag-before.new.layouts; names = d.names; defined = d.defined } in
    let f : Declarations = record { alloc = d.alloc; layouts = c.close_tag.new.layouts; names = d.names; defined = d.defined } in
    let within = tag_within old d s n tag.name holds c.requires.numbered in
    let held = tag_open old d e s n tag c.requires.numbered within c.open_tag-before.ensures.opened refl refl holds in
    let p = members (inner s tag) [] tag.members in
    let refused = err_is (IsClosed (known new) (inner s tag).tags) c.in-Err.told p (subst (λ (r : Result Layout TypeFault). IsJudged (IsClosed (known new) (inner s tag).tags) r p) c.in-Err.is (c.in_ok-members.ensures.judged (inner s tag) held)) in
    let layouts = c.close_tag.ensures ∙ ap (λ (l : List Layout). set l n c.open_tag-before.result) c.open_tag-before.ensures.opened in
    tag_back old new d f s n tag c.open_tag-before.result c.in-Err.told c.in_ok-members.ensures.grows c.in_ok-members.ensures.tags holds c.open_tag-before.ensures.known layouts refl refl refused
