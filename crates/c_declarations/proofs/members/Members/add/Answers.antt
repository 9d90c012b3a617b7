use Rattle.std.proofs.Common.{◌≡◌, ℕ, List, Option, sym, ap, subst, ◌∙◌}
use Rattle.std.specs.Prelude.{Result, IfOk, OnOk}
use Rattle.std.specs.Result.{result_err}
use Rattle.c_syntax.specs.View.{decl_of, ty_of}
use Rattle.c_types.specs.declared.fault.TypeFault.{TypeFault}
use Rattle.c_types.specs.Types.{CType}
use Rattle.c_types.specs.Refusals.{Judged, after}
use Rattle.c_types.specs.Expressions.{written}
use Rattle.c_types.specs.Declarations.{object_type, members_or}
use Rattle.c_types.specs.Table.{known, HasType}
use Rattle.c_layouts.specs.declared.layout.Layout.{Layout}
use Rattle.c_layouts.specs.Layouts.{AreLayouts}
use Rattle.c_operands.specs.Seen.{IsJudged}
use Rattle.c_forms.proofs.PartLemmas.{ok_is, err_is}
use Rattle.c_declared.proofs.HeldLemmas.{holds_kept}
use Rattle.c_declared.proofs.ToldLemmas.{kept_rules}
use Rattle.c_declarations.specs.Members.{AreSoFar, member_rules, member_of}
use Rattle.c_declarations.proofs.MemberLemmas.{so_far_kept}
use Rattle.c_declarations.proofs.members.Members.add.Goals as goal

pub returns-in-Ok-clause-told : goal.returns-in-Ok-clause-told
returns-in-Ok-clause-told c = λ s before holds h.
    let old = c.args.types.now in
    let new = c.member_type.new.types in
    let m = c.args.m.now in
    let d = decl_of m in
    let p = after (written s m.pos (ty_of m.ty)) (λ t. object_type s m.pos t) in
    let k = ok_is (HasType new) c.in-Ok.number p (subst (λ (r : Result ℕ TypeFault). IsJudged (HasType new) r p) c.in-Ok.is (c.in_ok-ty.ensures.judged s holds)) in
    let so_far = so_far_kept (known old) (known new) s.tags c.args.self.now before c.in_ok-ty.ensures.grows h in
    subst (λ (z : Option TypeFault). IfOk c.add_typed.result (λ r. r ≡ z))
    (sym (ap (λ (q : Judged CType). result_err (after q (λ t. member_of before d t))) k.1 ∙ kept_rules (member_rules before d) (d.name, k.0)))
    (c.add_typed.ensures.told s.tags before so_far)

pub returns-in-Ok-clause-are : goal.returns-in-Ok-clause-are
returns-in-Ok-clause-are c = λ s before holds h.
    let old = c.args.types.now in
    let new = c.member_type.new.types in
    let m = c.args.m.now in
    let p = after (written s m.pos (ty_of m.ty)) (λ t. object_type s m.pos t) in
    let k = ok_is (HasType new) c.in-Ok.number p (subst (λ (r : Result ℕ TypeFault). IsJudged (HasType new) r p) c.in-Ok.is (c.in_ok-ty.ensures.judged s holds)) in
    let so_far = so_far_kept (known old) (known new) s.tags c.args.self.now before c.in_ok-ty.ensures.grows h in
    let now = holds_kept old new c.args.declared.now s c.in_ok-ty.ensures.grows c.in_ok-ty.ensures.tags holds in
    subst (λ (q : Judged CType). OnOk c.add_typed.result (AreSoFar (known new) s.tags c.add_typed.new.self (members_or before (after q (λ t. member_of before (decl_of m) t))))) (sym k.1)
    (c.add_typed.ensures.are s before k.0 so_far k.2 (subst (λ (ls : List Layout). AreLayouts new ls s.tags) (sym c.as_slice-layouts.ensures.value) now.fits.layouts))

pub returns-in-Err-clause-are : goal.returns-in-Err-clause-are
returns-in-Err-clause-are c = λ s before holds h.
    let old = c.args.types.now in
    let new = c.member_type.new.types in
    let m = c.args.m.now in
    let p = after (written s m.pos (ty_of m.ty)) (λ t. object_type s m.pos t) in
    let e = err_is (HasType new) c.in-Err.fault p (subst (λ (r : Result ℕ TypeFault). IsJudged (HasType new) r p) c.in-Err.is (c.in_ok-ty.ensures.judged s holds)) in
    subst (λ (q : Judged CType). AreSoFar (known new) s.tags c.args.self.now (members_or before (after q (λ t. member_of before (decl_of m) t)))) (sym e)
    (so_far_kept (known old) (known new) s.tags c.args.self.now before c.in_ok-ty.ensures.grows h)
