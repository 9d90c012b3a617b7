use Rattle.std.proofs.Common.{false}
use Rattle.c_syntax.specs.View.{decl_of}
use Rattle.c_types.specs.Declarations.{declared, scope_or}
use Rattle.c_lower_literals.proofs.locals.local_literals.Goals as goal

pub returns-clause-gathers : goal.returns-clause-gathers
returns-clause-gathers c = record {
  grows = c.in_ok-refusal.ensures.grows;
  tags = c.in_ok-refusal.ensures.tags;
  adds = λ s holds. c.in_ok-first_literals.ensures c.declare_object.new.types (scope_or s (declared s false (decl_of c.args.d.now))) (c.in_ok-refusal.ensures.holds s holds).fits;
  holds = λ s holds. c.in_ok-refusal.ensures.holds s holds;
  around = c.in_ok-refusal.ensures.around;
}

pub returns-clause-refusal : goal.returns-clause-refusal
returns-clause-refusal c = λ s holds. c.in_ok-refusal.ensures.judged s holds
