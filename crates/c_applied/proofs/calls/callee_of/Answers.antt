use Rattle.std.proofs.Common.{◌≡◌, ℕ, ◌+◌, ◌++◌, Bool, true, false, not, ◌||◌, List, [], ◌∷◌, length, refl, sym, ap, subst, ◌∙◌, append_assoc, append-nil, arith, if◌then◌else◌}
use Rattle.std.specs.Prelude.{Option, Some, None, OnOk, IfOk}
use Rattle.c_syntax.specs.Plain.{CExpr}
use Rattle.c_syntax.specs.View.{expr_of}
use Rattle.c_applied.specs.Calls.{IsCalled}
use Rattle.c_applied.proofs.PieceLemmas.{name_is}
use Rattle.c_applied.proofs.CalledLemmas.{unnamed_called}
use Rattle.c_applied.proofs.calls.callee_of.Goals as goal

pub returns-in-Some : goal.returns-in-Some
returns-in-Some c = λ out w env is.
    let named = name_is (expr_of c.args.f.now) c.in-Some.name.now c.in-Some.ensures in
    subst (λ (x : CExpr). IsCalled c.called_name.result w env.scope x) (sym named.1) (c.called_name.ensures out w env named.0 is)

pub returns-in-None : goal.returns-in-None
returns-in-None c = λ out w env is. unnamed_called env.scope (expr_of c.args.f.now) c.in-None.ensures
