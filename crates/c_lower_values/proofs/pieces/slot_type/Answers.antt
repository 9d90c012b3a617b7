use Rattle.std.proofs.Common.{refl}
use Rattle.c_addressing.proofs.HereLemmas.{still}
use Rattle.c_lower_values.proofs.pieces.slot_type.Goals as goal

pub returns-clause-ty : goal.returns-clause-ty
returns-clause-ty c = λ s are. c.in_ok-ty.ensures.ty s are

pub returns-clause-still : goal.returns-clause-still
returns-clause-still c = still c.args.out.now (record c.args.out.now { types = c.type_at.new.types }) c.in_ok-ty.ensures.grows c.in_ok-ty.ensures.tags refl refl
