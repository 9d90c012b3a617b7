use Rattle.std.proofs.Common.{false, refl, sym, subst, ◌∙◌}
use Rattle.c_types.specs.Scope.{Scope, Object}
use Rattle.c_types.specs.Declarations as declarations
use Rattle.c_declared.specs.Held.{Holds}
use Rattle.c_declared.proofs.HeldLemmas.{one_unnamed}
use Rattle.c_statements.proofs.ScopeLemmas.{declares, refused_keeps}
use Rattle.c_fewer_parts.proofs.GoingLemmas.{unchanged}
use Rattle.c_fewer_parts.proofs.locals.withdraw.Goals as goal

pub returns-in-Some-clause-holds : goal.returns-in-Some-clause-holds
returns-in-Some-clause-holds c = λ table s d is before.
    subst (λ (r : Scope). Holds table c.args.declared.now r) (refused_keeps s (declarations.declared s false d) _ (sym c.in-Some.is ∙ is)) before

pub returns-in-Some-clause-around : goal.returns-in-Some-clause-around
returns-in-Some-clause-around c =
    unchanged c.args.declared.now

pub returns-in_ok-withdraw-in-None-clause-holds : goal.returns-in_ok-withdraw-in-None-clause-holds
returns-in_ok-withdraw-in-None-clause-holds c = λ table s d is before.
    let k = declares s false d (sym (sym c.in-None.is ∙ is)) in
    let held = subst (λ (r : Scope). Holds table c.args.declared.now r) k.1 before in
    one_unnamed table c.args.declared.now _ s d.name (Object k.0) (record { outer = c.in_ok-withdraw-in-None.ensures.outer; layouts = refl; defined = refl }) c.in_ok-withdraw-in-None.ensures.block held

pub returns-in_ok-withdraw-in-None-clause-around : goal.returns-in_ok-withdraw-in-None-clause-around
returns-in_ok-withdraw-in-None-clause-around c =
    record { outer = c.in_ok-withdraw-in-None.ensures.outer; layouts = refl; defined = refl }
