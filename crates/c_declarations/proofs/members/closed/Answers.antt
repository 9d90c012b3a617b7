use Rattle.std.proofs.Common.{Option, sym, subst}
use Rattle.std.specs.Prelude.{Ok}
use Rattle.c_types.specs.declared.fault.TypeFault.{TypeFault}
use Rattle.c_layouts.specs.declared.layout.Layout.TheVariants as layout
use Rattle.c_operands.specs.Seen.{IsJudged}
use Rattle.c_declared.specs.Told.{told_behind}
use Rattle.c_declarations.specs.Members.{IsClosed}
use Rattle.c_declarations.proofs.MemberLemmas.{all_closed}
use Rattle.c_declarations.proofs.members.closed.Goals as goal

pub returns-in-None : goal.returns-in-None
returns-in-None c = λ all tags before h.
    subst (λ (o : Option TypeFault). IsJudged (IsClosed all tags) (Ok (layout.Members c.args.members.entries c.args.members.words)) (told_behind o (Ok before))) (sym c.in-None.is) (all_closed all tags c.args.members before h)
