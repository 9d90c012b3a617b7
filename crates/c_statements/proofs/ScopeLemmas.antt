-- The scope behind a statement, which is that before it where the statement declares nothing.
use Rattle.std.proofs.Common.{◌≡◌, Bool, List, [], ◌∷◌, Option, Some, None, refl}
use Rattle.std.specs.Prelude.{Ok, Err, not}
use Rattle.std.specs.Option.{option_map_or}
use Rattle.std.specs.Result.{result_err}
use Rattle.c_syntax.specs.Plain.{CDecl}
use Rattle.c_types.specs.declared.fault.TypeFault.{TypeFault}
use Rattle.c_types.specs.declared.fault.TypeFault.TheVariants as fault
use Rattle.c_types.specs.Types.{CType}
use Rattle.c_types.specs.Refusals.{Judged, Rule, after, both, keeping, broken}
use Rattle.c_types.specs.Scope.{Scope, Object, with_name, is_declared_here}
use Rattle.c_types.specs.Declarations.{scope_or, declared, declared_type, declared_object, first_fitting}

abbrev pub chosen : Option TypeFault → Scope → Judged Scope
chosen o s = option_map_or (λ e. Err e) o (Ok s)

pub rules_keep : (o : Option TypeFault) (s : Scope) → scope_or s (chosen o s) ≡ s
rules_keep None s = refl
rules_keep (Some e) s = refl

pub after_keeps : {A : Type 0} (p : Judged A) (rules : A → List Rule) (s : Scope) → scope_or s (after p (λ a. keeping (rules a) s)) ≡ s
after_keeps (Ok a) rules s = rules_keep (broken (rules a)) s
after_keeps (Err e) rules s = refl

pub done_keeps : {A : Type 0} (p : Judged A) (s : Scope) → scope_or s (after p (λ _. Ok s)) ≡ s
done_keeps (Ok a) s = refl
done_keeps (Err e) s = refl

pub both_keep : {A B : Type 0} (p : Judged A) (q : Judged B) (rules : A → B → List Rule) (s : Scope) → scope_or s (both p q (λ a b. keeping (rules a b) s)) ≡ s
both_keep (Ok a) (Ok b) rules s = rules_keep (broken (rules a b)) s
both_keep (Ok a) (Err e) rules s = refl
both_keep (Err d) (Ok b) rules s = refl
both_keep (Err d) (Err e) rules s = refl

-- what is refused declares nothing
pub refused_keeps : (s : Scope) (p : Judged Scope) (e : TypeFault) → Some e ≡ result_err p → scope_or s p ≡ s
refused_keeps s (Err d) e h = refl
refused_keeps s (Ok r) e h = absurd cc

-- a declaration that is no refusal has declared its name
abbrev named_or : Scope → CDecl → Judged Scope → Type 0
named_or s d p = result_err p ≡ None → (t : CType) × (scope_or s p ≡ with_name s d.name (Object t))

by_rules : (o : Option TypeFault) (s : Scope) (d : CDecl) (t : CType) → named_or s d (chosen o (with_name s d.name (Object t)))
by_rules None s d t = λ h. (t, refl)
by_rules (Some e) s d t = λ h. absurd cc

by_value : {A : Type 0} (p : Judged A) (rules : List Rule) (s : Scope) (d : CDecl) (t : CType) → named_or s d (after p (λ _. keeping rules (with_name s d.name (Object t))))
by_value (Ok a) rules s d t = by_rules (broken rules) s d t
by_value (Err e) rules s d t = λ h. absurd cc

by_type : (p : Judged CType) (s : Scope) (file : Bool) (d : CDecl) → ((t : CType) → named_or s d (declared_object s file d t)) → named_or s d (after p (λ t. declared_object s file d t))
by_type (Ok t) s file d each = each t
by_type (Err e) s file d each = λ h. absurd cc

pub declares : (s : Scope) (file : Bool) (d : CDecl) → named_or s d (declared s file d)
declares s file d =
    by_type (declared_type s d) s file d (λ t.
    by_value {A = Unit {0}} (first_fitting (with_name s d.name (Object t)) (record { file = file; pos = d.pos }) t d.first) ((not (is_declared_here s d.name), fault.Twice d.pos) ∷ []) s d t)
