-- Parameters and their rules.
use Rattle.std.proofs.Common.{◌≡◌, ℕ, Bool, true, false, List, [], ◌∷◌, ◌++◌, length, Option, Some, None, refl, sym, ap, subst, ◌∙◌, arith}
use Rattle.std.specs.Prelude.{Ok, Err, slice_get, is_some, is_none, not}
use Rattle.std.specs.Option.{option_map_or}
use Rattle.std.specs.Result.{result_err}
use Rattle.c_syntax.specs.Words.{meaning}
use Rattle.c_syntax.specs.View.{decl_of, maybe_value}
use Rattle.c_syntax.specs.declared.tree.Decl.{Decl}
use Rattle.c_syntax.specs.declared.tree.Value.{Value}
use Rattle.c_types.specs.declared.fault.TypeFault.{TypeFault}
use Rattle.c_types.specs.declared.fault.TypeFault.TheVariants as fault
use Rattle.c_types.specs.Types.{CType, is_scalar, decayed}
use Rattle.c_types.specs.Refusals.{Judged, broken, keeping}
use Rattle.c_types.specs.Scope as scope
use Rattle.c_types.specs.Scope.{Scope, is_declared_here, with_name}
use Rattle.c_types.specs.Expressions as expressions
use Rattle.c_types.specs.Units as plain
use Rattle.c_types.specs.Known.{OneType}
use Rattle.c_types.specs.Table.{Table, known}
use Rattle.c_scopes.specs.declared.entity.Entity.{Entity}
use Rattle.c_scopes.specs.declared.entity.Entity.TheVariants.{Object}
use Rattle.c_operands.specs.Arguments.{merged}
use Rattle.c_operands.proofs.LeastLemmas.{broken_first}
use Rattle.c_operands.specs.declared.declarations.Declarations.{Declarations}
use Rattle.c_operands.specs.Scoped.{AreNames, IsEntityOrNone}
use Rattle.c_operands.proofs.NameLemmas.{found}
use Rattle.c_declared.specs.Held.{Holds}
use Rattle.c_declared.proofs.ToldLemmas.{kept_rules}
use Rattle.c_signatures.specs.declared.parameters.Parameter.{Parameter}
use Rattle.c_signatures.specs.Parameters.{Entries, with_entry, parameter_rules, typed_parameter, IsAdded}

pub parameter_ok : (at : ℕ) (t : CType) → is_scalar (decayed t) ≡ true → expressions.parameter_type at t ≡ Ok (decayed t)
parameter_ok at t h = ap (λ (b : Bool). keeping ((b, fault.Mismatch at) ∷ []) (decayed t)) h

pub parameter_err : (at : ℕ) (t : CType) → is_scalar (decayed t) ≡ false → expressions.parameter_type at t ≡ Err (fault.Mismatch at)
parameter_err at t h = ap (λ (b : Bool). keeping ((b, fault.Mismatch at) ∷ []) (decayed t)) h

-- ---- a parameter's own rules

same_there : (table : Table) (a : Option Entity) (b : Option scope.Entity) → IsEntityOrNone table a b → is_some a ≡ option_map_or (λ _. true) b false
same_there table (Some a) (Some b) h = refl
same_there table None None h = refl
same_there table (Some a) None h = absurd h
same_there table None (Some b) h = absurd h

pub new_as : (table : Table) (names : List (List ℕ × Entity)) (s : Scope) (name : List ℕ) (b : Bool) → AreNames table names s.block → b ≡ is_some (meaning names name) → not b ≡ not (is_declared_here s name)
new_as table names s name b are h = ap not (h ∙ same_there table (meaning names name) (meaning s.block name) (found table names s.block name are))

pub none_view : (o : Option Value) (b : Bool) → is_some o ≡ not b → b ≡ is_none (maybe_value o)
none_view None true e = refl
none_view None false e = absurd cc
none_view (Some v) false e = refl
none_view (Some v) true e = absurd cc

pub none_by : {X : Type 0} (o : Option X) (b : Bool) → is_some o ≡ not b → b ≡ is_none o
none_by (Some x) false e = refl
none_by (Some x) true e = absurd cc
none_by None true e = refl
none_by None false e = absurd cc

-- two rules, each told by itself
pub two_told : (x y u v : Bool) (f g : TypeFault) (a b r : Option TypeFault) → a ≡ broken ((x, f) ∷ []) → b ≡ broken ((y, g) ∷ []) → r ≡ merged a b → x ≡ u → y ≡ v → r ≡ broken ((u, f) ∷ (v, g) ∷ [])
two_told x y u v f g a b r h k m p q =
    m ∙ (ap (λ (o : Option TypeFault). merged o b) h
    ∙ (ap (λ (o : Option TypeFault). merged (broken ((x, f) ∷ [])) o) k
    ∙ (sym (broken_first x f ((y, g) ∷ []))
    ∙ (ap (λ (z : Bool). broken ((z, f) ∷ (y, g) ∷ [])) p ∙ ap (λ (z : Bool). broken ((u, f) ∷ (z, g) ∷ [])) q))))

-- ---- a parameter more

ok_same : {X : Type 0} (x y : X) (p : Judged X) → p ≡ Ok x → p ≡ Ok y → x ≡ y
ok_same x y p e f = cc

not_both : {X : Type 0} (x : X) (e : TypeFault) (p : Judged X) → p ≡ Ok x → p ≡ Err e → ⊥
not_both x e p h k = cc

none_is : (o : Option TypeFault) → is_none o ≡ true → o ≡ None
none_is None h = refl
none_is (Some e) h = absurd cc

abbrev made : Scope → Decl → CType → plain.Parameter
made s p t = record { ty = t; scope = plain.with_parameter s p.name t }

refused_as : (o : Option TypeFault) (x : plain.Parameter) → is_none o ≡ false → (e : TypeFault) × (option_map_or (λ e. Err e) o (Ok x) ≡ Err e)
refused_as (Some e) x h = (e, refl)
refused_as None x h = absurd cc

pub refused_added : (table : Table) (d : Declarations) (items : List Parameter) (s : Scope) (p : Decl) (e : TypeFault) → Holds table d s → IsAdded table d items items s p (Some e) (Err e)
refused_added table d items s p e holds = record { told = refl; holds = holds; added = λ first k. absurd (not_both first e (Err e) k refl); kept = λ f k. refl }

-- ---- names that are empty or not
