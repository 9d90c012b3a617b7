use Rattle.std.proofs.Common.{sym, ap}
use Rattle.c_types.specs.Scope as scope
use Rattle.c_types.specs.Scope.{is_function}
use Rattle.c_operands.proofs.NameLemmas.{none_is}
use Rattle.c_operands.proofs.uses.names_function.Goals as goal

pub returns-in-Some : goal.returns-in-Some
returns-in-Some c = λ s fits. c.is_function.ensures c.args.types.now (scope.entity_of s c.args.name.now) (c.in-Some.ensures s fits)

pub returns-in-None : goal.returns-in-None
returns-in-None c = λ s fits. sym (ap is_function (none_is c.args.types.now (scope.entity_of s c.args.name.now) (c.in-None.ensures s fits)))
