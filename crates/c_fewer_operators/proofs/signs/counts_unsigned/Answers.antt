use Rattle.std.proofs.Common.{Bool, ◌||◌, sym, ap, ◌∙◌}
use Rattle.c_syntax.specs.declared.tree.BinOp.{BinOp}
use Rattle.c_types.specs.Types.{is_unsigned}
use Rattle.c_helpers.specs.Fewer as fewer
use Rattle.c_fewer_operators.proofs.SignLemmas.{counts_else}
use Rattle.c_fewer_operators.proofs.signs.counts_unsigned.Goals as goal

pub returns-in-Shr : goal.returns-in-Shr
returns-in-Shr c = λ t u e f.
    e ∙ ap (λ (o : BinOp). fewer.counts_unsigned o t u) (sym c.in-Shr.is)

pub returns-in_default : goal.returns-in_default
returns-in_default c = λ t u e f.
    c.either.ensures ∙ (ap (λ (b : Bool). b || c.args.second) e ∙ (ap (λ (b : Bool). is_unsigned t || b) f ∙ counts_else c.args.op t u c.in_default.not-Shr))
