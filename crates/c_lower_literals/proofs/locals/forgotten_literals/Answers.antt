use Rattle.c_syntax.specs.View.{decl_of}
use Rattle.c_lower_literals.proofs.GatherLemmas.{forgotten}
use Rattle.c_lower_literals.proofs.locals.forgotten_literals.Goals as goal

pub returns : goal.returns
returns c = forgotten c.forget.new.declared (decl_of c.args.d.now) c.in_ok-refusal.refusal c.forget.result c.in_ok-refusal.ensures.gathers (λ s holds. c.in_ok-refusal.ensures.refusal s holds) (λ s d told holds. c.forget.ensures.holds s d told holds) c.forget.ensures.around
