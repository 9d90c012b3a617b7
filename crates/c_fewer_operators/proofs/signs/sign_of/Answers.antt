use Rattle.std.proofs.Common.{Some, sym, ap, ◌∙◌}
use Rattle.c_syntax.specs.declared.tree.BinOp.{BinOp}
use Rattle.c_helpers.specs.Fewer as fewer
use Rattle.c_fewer_operators.proofs.SignLemmas.{sign_else}
use Rattle.c_fewer_operators.proofs.signs.sign_of.Goals as goal

pub returns-in-Mul : goal.returns-in-Mul
returns-in-Mul c = ap (λ (o : BinOp). fewer.sign_of o c.args.unsigned) (sym c.in-Mul.is)

pub returns-in-Div : goal.returns-in-Div
returns-in-Div c = ap Some c.name_by.ensures ∙ ap (λ (o : BinOp). fewer.sign_of o c.args.unsigned) (sym c.in-Div.is)

pub returns-in-Mod : goal.returns-in-Mod
returns-in-Mod c = ap Some c.name_by-in-Mod.ensures ∙ ap (λ (o : BinOp). fewer.sign_of o c.args.unsigned) (sym c.in-Mod.is)

pub returns-in-BitAnd : goal.returns-in-BitAnd
returns-in-BitAnd c = ap (λ (o : BinOp). fewer.sign_of o c.args.unsigned) (sym c.in-BitAnd.is)

pub returns-in-BitOr : goal.returns-in-BitOr
returns-in-BitOr c = ap (λ (o : BinOp). fewer.sign_of o c.args.unsigned) (sym c.in-BitOr.is)

pub returns-in-BitXor : goal.returns-in-BitXor
returns-in-BitXor c = ap (λ (o : BinOp). fewer.sign_of o c.args.unsigned) (sym c.in-BitXor.is)

pub returns-in-Shl : goal.returns-in-Shl
returns-in-Shl c = ap (λ (o : BinOp). fewer.sign_of o c.args.unsigned) (sym c.in-Shl.is)

pub returns-in-Shr : goal.returns-in-Shr
returns-in-Shr c = ap Some c.name_by-in-Shr.ensures ∙ ap (λ (o : BinOp). fewer.sign_of o c.args.unsigned) (sym c.in-Shr.is)

pub returns-in_default : goal.returns-in_default
returns-in_default c = sign_else c.args.op c.args.unsigned c.in_default.not-Mul c.in_default.not-Div c.in_default.not-Mod c.in_default.not-BitAnd c.in_default.not-BitOr c.in_default.not-BitXor c.in_default.not-Shl c.in_default.not-Shr
