use Rattle.std.proofs.Common.{◌≡◌, ℕ, ◌+◌, ◌++◌, Bool, true, false, not, ◌||◌, List, [], ◌∷◌, length, refl, sym, ap, subst, ◌∙◌, append_assoc, append-nil, arith, if◌then◌else◌}
use Rattle.std.specs.Prelude.{Option, Some, None, OnOk, IfOk}
use Rattle.c_syntax.specs.Plain as tree
use Rattle.c_types.specs.Scope.{entity_of}
use Rattle.c_scopes.specs.declared.entity.Entity.{Entity}
use Rattle.c_operands.specs.Scoped.{IsEntityOrNone}
use Rattle.c_applied.specs.Calls.{IsCalled}
use Rattle.c_addressing.proofs.PlaceLemmas.{entity_found}
use Rattle.c_applied.proofs.calls.called_name.Goals as goal

pub returns-then-is_known_to_helpers : goal.returns-then-is_known_to_helpers
returns-then-is_known_to_helpers c = λ out w env at is. record { at = at; is = refl; known = sym c.is_known_to_helpers.ensures ∙ c.if-is_known_to_helpers.true }

pub returns : goal.returns
returns c = λ out w env at is.
    let name = c.args.name.now in
    let s = env.scope in
    c.called_entity.ensures out w env at is (sym c.is_known_to_helpers.ensures ∙ c.if-is_known_to_helpers.false)
    (subst (λ (o : Option Entity). IsEntityOrNone out.types o (entity_of s name)) (sym c.get.ensures) (entity_found out.types c.args.here.now.declared s name is.holds.fits))
