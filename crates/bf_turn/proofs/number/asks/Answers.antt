use Rattle.std.proofs.Common.{refl}
use Rattle.eir_core.specs.declared.ops.Op.TheVariants.{Load, Store}
use Rattle.bf_ops.specs.Perform.{asks}
use Rattle.bf_turn.proofs.Listed.{known_is, other_quiet}
use Rattle.bf_turn.proofs.number.asks.Goals as goal

pub returns-in-Load : goal.returns-in-Load
returns-in-Load c = known_is asks c.args.op (Load c.in-Load.field-0 c.in-Load.field-1) c.in-Load.is refl

pub returns-in-Store : goal.returns-in-Store
returns-in-Store c = known_is asks c.args.op (Store c.in-Store.field-0 c.in-Store.field-1) c.in-Store.is refl

pub returns-in_default : goal.returns-in_default
returns-in_default c = other_quiet c.args.op c.in_default.not-Load c.in_default.not-Store
