use Rattle.std.proofs.Common.{Option, sym, subst}
use Rattle.c_syntax.specs.Words.{meaning}
use Rattle.c_types.specs.Types as types
use Rattle.c_types.specs.Operands as plain
use Rattle.c_types.specs.Table.{known}
use Rattle.c_layouts.specs.declared.layout.Layout.{Layout}
use Rattle.c_layouts.specs.Layouts.{IsMember, LayoutIs}
use Rattle.c_operands.specs.Seen.{IsOperand, IsJudged}
use Rattle.c_forms.proofs.members.member_in.Goals as goal

pub returns-in-Members : goal.returns-in-Members
returns-in-Members c = λ table o h.
    let m = subst (λ (l : Layout). LayoutIs (known table) l o) c.in-Members.is h in
    subst (λ (p : Option types.Layout). IsJudged (IsOperand table) c.placed.result (plain.member_in c.args.at c.args.name.now p)) (sym m.is)
    (c.placed.ensures table (meaning m.members c.args.name.now)
    (subst (λ (n : Option _). IsMember (known table) n (meaning m.members c.args.name.now)) (sym c.number_of.ensures) (m.found c.args.name.now)))
