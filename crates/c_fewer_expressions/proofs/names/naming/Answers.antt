use Rattle.std.proofs.Common.{sym, subst}
use Rattle.c_syntax.specs.Plain.{CExpr}
use Rattle.c_syntax.specs.View.{expr_of}
use Rattle.c_fewer_expressions.specs.Calls.{CallsAs}
use Rattle.c_fewer_expressions.proofs.NamedLemmas.{variable_is, unnamed}
use Rattle.c_fewer_expressions.proofs.names.naming.Goals as goal

pub returns-in-Some : goal.returns-in-Some
returns-in-Some c = λ s stands.
    let f = c.args.f.now in
    subst (λ (e : CExpr). CallsAs s c.by_name.result e f.pos) (sym (variable_is f c.in-Some.name.now c.in-Some.ensures)) (c.by_name.ensures s f.pos stands)

pub returns-in-None : goal.returns-in-None
returns-in-None c = λ s stands.
    unnamed s (expr_of c.args.f.now) c.args.f.now.pos c.in-None.ensures
