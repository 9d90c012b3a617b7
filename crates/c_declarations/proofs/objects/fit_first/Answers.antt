use Rattle.std.proofs.Common.{Some}
use Rattle.c_declarations.proofs.objects.fit_first.Goals as goal

pub fit-requires-clause-ty : goal.fit-requires-clause-ty
fit-requires-clause-ty c = (Some c.requires.ty.0, c.requires.ty.1)
