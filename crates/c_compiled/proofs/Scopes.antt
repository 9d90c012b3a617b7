-- Names serve behind what is declared in both scopes.
use Rattle.std.proofs.Common.{◌≡◌, ℕ, List, [], ◌∷◌, Some, Bool, true, false, refl, sym, subst, cond}
use Rattle.std.specs.Prelude.{not, Ok}
use Rattle.std.specs.Str.{bytes_eq}
use Rattle.std.proofs.lemmas.Slice.Eq.{bytes_eq-Decides}
use Rattle.c_syntax.specs.Plain.{CDecl}
use Rattle.c_types.specs.declared.fault.TypeFault.TheVariants as fault
use Rattle.c_types.specs.Types.{CType, CTypes, is_object_type}
use Rattle.c_types.specs.Refusals.{keeping}
use Rattle.c_types.specs.Scope.{Scope, Entity, Object, Routine, with_name, is_declared_here, entered, entity_of, contains}
use Rattle.c_types.specs.Expressions.{written}
use Rattle.c_types.specs.Declarations.{Site, first_fitting, completed, object_type, declared_type, declared_object, declared}
use Rattle.c_eval.specs.Environment.{Callee, Through, named_callee}
use Rattle.c_fewer_types.proofs.Judged.{keeping_is, first_kept}
use Rattle.c_fewer_types.specs.Standing.{IsTextName, ScopesStand}
use Rattle.c_fewer_types.proofs.Scopes.{entered_stand}
use Rattle.c_fewer_types.proofs.FewerTypedRules.{after_is}
use Rattle.c_compiled.specs.Few.{NameServes}
use Rattle.c_compiled.specs.Calls.{is_called, NameCalls}
use Rattle.c_compiled.specs.Statements.{ScopesServe}

-- ---- a declaration

abbrev pub site_of : CDecl → Site
site_of d = record { file = false; pos = d.pos }

-- what a local's declaration is made of
pub record IsDeclared (s : Scope) (d : CDecl) (r : Scope) : Type 0 where
  pub type : CType
  pub is : declared_type s d ≡ Ok type
  pub object : is_object_type s.tags type ≡ true
  pub behind : r ≡ with_name s d.name (Object type)
  pub fits : (u : Unit {0}) × (first_fitting r (site_of d) type d.first ≡ Ok u)

pub is_declared : (s : Scope) (d : CDecl) (r : Scope) → declared s false d ≡ Ok r → IsDeclared s d r
is_declared s d r e =
    let k = after_is (declared_type s d) (λ t. declared_object s false d t) r e in
    let inner : Scope = with_name s d.name (Object k.0) in
    let l = after_is (first_fitting inner (site_of d) k.0 d.first) (λ _. keeping ((not (is_declared_here s d.name), fault.Twice d.pos) ∷ []) inner) r k.2 in
    let m = keeping_is {A = Scope} ((not (is_declared_here s d.name), fault.Twice d.pos) ∷ []) inner r l.2 in
    let w = after_is (written s d.pos d.ty) (λ t. object_type s d.pos (completed t d.first)) k.0 k.1 in
    let full : CType = completed w.0 d.first in
    let o = keeping_is {A = CType} ((is_object_type s.tags full, fault.Mismatch d.pos) ∷ []) full k.0 w.2 in
    record {
      type = k.0;
      is = k.1;
      object = subst (λ t. is_object_type s.tags t ≡ true) o.1 (first_kept (is_object_type s.tags full) (fault.Mismatch d.pos) [] o.0).0;
      behind = sym m.1;
      fits = (l.0, subst (λ z. first_fitting z (site_of d) k.0 d.first ≡ Ok l.0) m.1 l.1);
    }

-- ---- names

module _ (valued : List ℕ → Bool) (may : Callee → Bool) (any : (params : CTypes) → may (Through params) ≡ true) (P : List ℕ → Type 0) (s s' : Scope) (n : List ℕ) (t t' : CType) (text : IsTextName n) where
  points_behind : (name : List ℕ) → NameServes valued s name → NameServes valued (with_name s n (Object t)) name
  points_behind name h = record { points = λ u begun e c. go u begun (bytes_eq name n) e c }
    where
      go : (u : CType) (begun : Bool) (b : Bool) → cond b (Some (Object t)) (entity_of s name) ≡ Some (Routine u begun) → contains s.defined name ≡ true → valued name ≡ true
      go u begun true e c = absurd (cc e)
      go u begun false e c = h.points u begun e c

  calls_behind : (name : List ℕ) → NameCalls may s s' name → NameCalls may (with_name s n (Object t)) (with_name s' n (Object t')) name
  calls_behind name h = record { calls = λ e. called (bytes_eq name n) e; own = h.own; text = λ x e. of_text x (bytes_eq name n) refl e }
    where
      called : (b : Bool) → is_called name (cond b (Some (Object t')) (entity_of s' name)) ≡ true → may (named_callee name (cond b (Some (Object t')) (entity_of s' name))) ≡ true
      called true e = any _
      called false e = h.calls e

      of_text : (x : Entity) (b : Bool) → bytes_eq name n ≡ b → cond b (Some (Object t)) (entity_of s name) ≡ Some x → IsTextName name
      of_text x true k e =
          let same : name ≡ n = (bytes_eq-Decides name n).0 k in
          subst (λ z. IsTextName z) (sym same) text
      of_text x false k e = h.text x e

  -- an object that both declare
  pub object_serves : ScopesServe valued may P s s' → ScopesServe valued may P (with_name s n (Object t)) (with_name s' n (Object t'))
  object_serves a = record { tags = a.tags; points = λ name p. points_behind name (a.points name p); calls = λ name p. calls_behind name (a.calls name p) }

-- ---- a place of both

-- scopes that stand for each other, and whose names serve
pub record Serve (valued : List ℕ → Bool) (may : Callee → Bool) (P : List ℕ → Type 0) (s s' : Scope) : Type 0 where
  pub stand : ScopesStand P s s'
  pub serve : ScopesServe valued may P s s'

pub entered_serve : (valued : List ℕ → Bool) (may : Callee → Bool) (P : List ℕ → Type 0) (s s' : Scope) → Serve valued may P s s' → Serve valued may P (entered s) (entered s')
entered_serve valued may P s s' a = record {
  stand = entered_stand P s s' a.stand;
  serve = record {
    tags = a.serve.tags;
    points = λ name p. let h = a.serve.points name p in record { points = h.points };
    calls = λ name p. let h = a.serve.calls name p in record { calls = h.calls; own = h.own; text = h.text };
  };
}
