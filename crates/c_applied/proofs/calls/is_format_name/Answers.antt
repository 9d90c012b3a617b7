use Rattle.std.proofs.Common.{◌≡◌, ℕ, ◌+◌, ◌++◌, Bool, true, false, not, ◌||◌, List, [], ◌∷◌, length, refl, sym, ap, subst, ◌∙◌, append_assoc, append-nil, arith, if◌then◌else◌}
use Rattle.std.specs.Prelude.{Option, Some, None, OnOk, IfOk}
use Rattle.c_syntax.specs.View.{expr_of}
use Rattle.c_types.specs.Scope.{entity_of}
use Rattle.c_eval.specs.LiteralsIn.{names_printf}
use Rattle.c_scopes.specs.declared.entity.Entity.{Entity}
use Rattle.c_operands.specs.Scoped.{IsEntityOrNone}
use Rattle.c_addressing.proofs.PlaceLemmas.{entity_found}
use Rattle.c_applied.proofs.PieceLemmas.{name_is, format_is, printf_unnamed}
use Rattle.c_applied.proofs.calls.is_format_name.Goals as goal

pub returns-in-Some : goal.returns-in-Some
returns-in-Some c = λ table s fits.
    let name = c.in-Some.name.now in
    let named = name_is (expr_of c.args.f.now) name c.in-Some.ensures in
    c.is_format.ensures ∙ (format_is table c.get.result (entity_of s name) (subst (λ (o : Option Entity). IsEntityOrNone table o (entity_of s name)) (sym c.get.ensures) (entity_found table c.args.here.now.declared s name fits)) ∙ sym (ap (names_printf s) named.1))

pub returns-in-None : goal.returns-in-None
returns-in-None c = λ table s fits. sym (printf_unnamed s (expr_of c.args.f.now) c.in-None.ensures)
