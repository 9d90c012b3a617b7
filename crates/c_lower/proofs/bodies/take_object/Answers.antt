use Rattle.std.proofs.Common.{true}
use Rattle.c_syntax.specs.View.{decl_of}
use Rattle.c_types.specs.Declarations.{declared, scope_or}
use Rattle.c_lower.proofs.BodyLemmas.{no_bodies}
use Rattle.c_lower.proofs.bodies.take_object.Goals as goal

pub returns-clause-some : goal.returns-clause-some
returns-clause-some c =
    let h = c.requires in
    (scope_or h.0 (declared h.0 true (decl_of c.args.d.now)), c.in_ok-declare_object.ensures.holds h.0 h.1)

pub returns-clause-passes : goal.returns-clause-passes
returns-clause-passes c = λ s holds. record { adds = no_bodies c.args.bodies.now; holds = c.in_ok-declare_object.ensures.holds s holds }
