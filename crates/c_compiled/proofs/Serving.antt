-- Names serve in the scopes of a text.
use Rattle.std.proofs.Common.{◌≡◌, ℕ, List, Option, Some, None, Bool, true, false, refl, subst}
use Rattle.std.specs.Prelude.{not, ◌||◌, is_some, codes}
use Rattle.std.specs.List.{list_any}
use Rattle.std.specs.Str.{bytes_eq}
use Rattle.std.proofs.lemmas.Bool.{and_parts}
use Rattle.c_types.specs.Scope.{Scope, Entity, Object, Routine, BuiltIn, Printf, entity_of, contains}
use Rattle.c_eval.specs.Environment.{Callee, function_parameters, named_callee}
use Rattle.c_helpers.specs.Laws.{is_strange}
use Rattle.c_helpers.specs.Meanings.{stands_for}
use Rattle.c_compiled.specs.Few.{NameServes}
use Rattle.c_compiled.specs.Calls.{is_called, NameCalls}
use Rattle.c_compiled.specs.Functions.{IsTextScope, NamesServe, TextScopesServe}

denied : (b : Bool) → not b ≡ true → b ≡ false
denied true e = absurd (cc e)
denied false e = refl

module _ (valued : List ℕ → Bool) (may : Callee → Bool) (test : List ℕ → Bool) (defined : List (List ℕ)) (s s' : Scope) (serve : NamesServe valued may test defined) (is : IsTextScope defined s) where
  points : (name : List ℕ) → test name ≡ true → NameServes valued s name
  points name p = record { points = λ t begun e c. serve.points name p (is.names name (Routine t begun) e) (subst (λ z. contains z name ≡ true) is.functions c) }

  called : (name : List ℕ) → test name ≡ true → (o : Option Entity) → is_called name o ≡ true → may (named_callee name o) ≡ true
  called name p None c = serve.through _
  called name p (Some (Object t)) c = serve.through _
  called name p (Some (Routine t begun)) c = serve.direct name (function_parameters t) p (and_parts (not (list_any is_strange name) || is_some (stands_for name)) true c).0
  called name p (Some (BuiltIn t)) c =
      let k = and_parts (not (list_any is_strange name) || is_some (stands_for name)) (not (bytes_eq name (codes "puts"))) c in
      serve.built_in name (function_parameters t) (denied (bytes_eq name (codes "puts")) k.1)
  called name p (Some Printf) c = let k = and_parts (not (list_any is_strange name) || is_some (stands_for name)) false c in absurd (cc k.1)

  calls : (name : List ℕ) → test name ≡ true → NameCalls may s s' name
  calls name p = record { calls = λ c. called name p (entity_of s' name) c; own = serve.own name p; text = λ x e. is.names name x e }

pub text_scopes_serve : TextScopesServe
text_scopes_serve valued may test defined s s' serve is = record {
  tags = is.tags;
  points = λ name p. points valued may test defined s s' serve is name p;
  calls = λ name p. calls valued may test defined s s' serve is name p;
}
