use Rattle.std.proofs.Common.{false, refl, sym, subst, ◌∙◌}
use Rattle.c_syntax.specs.View.{decl_of}
use Rattle.c_types.specs.Scope.{Scope, Object}
use Rattle.c_types.specs.Declarations as plain
use Rattle.c_types.specs.Declarations.{scope_or}
use Rattle.c_declared.specs.Held.{Holds}
use Rattle.c_declared.proofs.HeldLemmas.{one_unnamed}
use Rattle.c_statements.proofs.ScopeLemmas.{declares, refused_keeps}
use Rattle.c_statements.proofs.locals.forgotten.Goals as goal

pub returns-in-Some-clause-judged : goal.returns-in-Some-clause-judged
returns-in-Some-clause-judged c = λ s h. sym c.in-Some.is ∙ c.in_ok-refusal.ensures.judged s h

pub returns-in-Some-clause-holds : goal.returns-in-Some-clause-holds
returns-in-Some-clause-holds c = λ s h.
    let p = plain.declared s false (decl_of c.args.d.now) in
    subst (λ (r : Scope). Holds c.declare_object.new.types c.declare_object.new.declared r) (refused_keeps s p c.in-Some.fault (sym c.in-Some.is ∙ c.in_ok-refusal.ensures.judged s h)) (c.in_ok-refusal.ensures.holds s h)

pub returns-in_ok-withdraw-in-None-clause-judged : goal.returns-in_ok-withdraw-in-None-clause-judged
returns-in_ok-withdraw-in-None-clause-judged c = λ s h. sym c.in-None.is ∙ c.in_ok-refusal.ensures.judged s h

pub returns-in_ok-withdraw-in-None-clause-holds : goal.returns-in_ok-withdraw-in-None-clause-holds
returns-in_ok-withdraw-in-None-clause-holds c = λ s h.
    let p = plain.declared s false (decl_of c.args.d.now) in
    let k = declares s false (decl_of c.args.d.now) (sym (sym c.in-None.is ∙ c.in_ok-refusal.ensures.judged s h)) in
    let held = subst (λ (r : Scope). Holds c.declare_object.new.types c.declare_object.new.declared r) k.1 (c.in_ok-refusal.ensures.holds s h) in
    one_unnamed c.declare_object.new.types c.declare_object.new.declared _ s c.args.d.now.name (Object k.0) (record { outer = c.in_ok-withdraw-in-None.ensures.outer; layouts = refl; defined = refl }) c.in_ok-withdraw-in-None.ensures.block held
