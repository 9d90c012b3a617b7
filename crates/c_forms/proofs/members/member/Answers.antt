use Rattle.std.proofs.Common.{refl, sym, subst, ◌∙◌}
use Rattle.std.specs.Prelude.{Err}
use Rattle.c_syntax.specs.Words.{meaning}
use Rattle.c_types.specs.declared.fault.TypeFault.TheVariants as fault
use Rattle.c_types.specs.Types.{CType}
use Rattle.c_types.specs.Operands as plain
use Rattle.c_types.specs.Table.{known}
use Rattle.c_layouts.proofs.SizeLemmas.{tag_is}
use Rattle.c_operands.specs.Seen.{IsOperand, IsJudged}
use Rattle.c_forms.proofs.MemberLemmas.{no_struct}
use Rattle.c_forms.proofs.members.member.Goals as goal

pub returns-in-Some : goal.returns-in-Some
returns-in-Some c = λ t tags h all.
    let table = c.args.types.now in
    let p = tag_is table.tags (known table) c.shape.result c.in-Some.tag t (sym c.in-Some.ensures) (c.shape.ensures.says ∙ h) in
    subst (λ (v : CType). IsJudged (IsOperand table) c.member_of.result (plain.member_operand tags c.args.at c.args.name.now v)) (sym p.1)
    (c.member_of.ensures table (meaning tags p.0) (all c.in-Some.tag p.0 p.2))

pub returns-in-None : goal.returns-in-None
returns-in-None c = λ t tags h all.
    let table = c.args.types.now in
    subst (IsJudged (IsOperand table) (Err (fault.Mismatch c.args.at)))
    (sym (no_struct tags c.args.at c.args.name.now table.tags (known table) c.shape.result t (sym c.in-None.ensures) (c.shape.ensures.says ∙ h))) refl
