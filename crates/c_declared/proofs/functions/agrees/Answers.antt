use Rattle.std.proofs.Common.{subst}
use Rattle.c_scopes.specs.declared.entity.Entity.{Entity}
use Rattle.c_operands.specs.Scoped.{IsEntity}
use Rattle.c_declared.proofs.EntityLemmas.{routine_agrees, built_in_agrees}
use Rattle.c_declared.proofs.functions.agrees.Goals as goal

pub returns-in-Routine : goal.returns-in-Routine
returns-in-Routine c = λ e t is h.
    routine_agrees c.args.types.now c.in-Routine.other c.in-Routine.begun e t c.args.defines c.is_same.result c.is_defined_once.result
    (subst (λ (a : Entity). IsEntity c.args.types.now a e) c.in-Routine.is is) (λ u g. c.is_same.ensures t u h g) c.is_defined_once.ensures

pub returns-in-BuiltIn : goal.returns-in-BuiltIn
returns-in-BuiltIn c = λ e t is h.
    built_in_agrees c.args.types.now c.in-BuiltIn.other e t c.args.defines c.is_same-in-BuiltIn.result c.is_defined_once-in-BuiltIn.result
    (subst (λ (a : Entity). IsEntity c.args.types.now a e) c.in-BuiltIn.is is) (λ u g. c.is_same-in-BuiltIn.ensures t u h g) c.is_defined_once-in-BuiltIn.ensures
