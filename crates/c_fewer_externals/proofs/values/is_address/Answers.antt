use Rattle.std.proofs.Common.{sym, ap}
use Rattle.c_syntax.specs.Plain as plain
use Rattle.c_syntax.specs.declared.tree.UnOp.{UnOp}
use Rattle.c_fewer_externals.specs.Static.{stays}
use Rattle.c_fewer_externals.proofs.values.is_address.Goals as goal

pub returns-in-Address : goal.returns-in-Address
returns-in-Address c = λ at a. ap (λ (o : UnOp). stays (plain.Unary at o a)) (sym c.in-Address.is)
