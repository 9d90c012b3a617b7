-- Desugared programs are made of their programs.
use Rattle.std.proofs.Common.{◌≡◌, ℕ, List, [], ◌∷◌, ◌++◌, Option, Some, None, Bool, true, false, refl, sym, ap, ap₂, ◌∙◌, subst, cond, map, arith}
use Rattle.std.specs.Prelude.{◌&&◌, ◌||◌, not, is_some, Ok}
use Rattle.std.specs.List.{find, list_any}
use Rattle.std.specs.Str.{bytes_eq}
use Rattle.c_syntax.specs.Plain as plain
use Rattle.c_syntax.specs.Plain.{CDecl, CStmt, CItem, CUnit}
use Rattle.c_syntax.specs.Words.{meaning}
use Rattle.c_types.specs.Refusals.{Judged}
use Rattle.c_types.specs.Scope.{Scope, contains}
use Rattle.c_types.specs.Declarations.{scope_or}
use Rattle.c_types.specs.Units.{Signature, signature, body_scope, declared_function, item_judged, all_items, defined_in, start_scope}
use Rattle.c_eval.specs.Text.{Definition, definition_in, definitions, text_of, function_named}
use Rattle.c_helpers.specs.Laws.{is_strange}
use Rattle.c_helpers.specs.Meanings.{is_format}
use Rattle.c_helpers.specs.Simple.{with_helpers, desugared}
use Rattle.c_fewer_types.specs.Standing.{IsTextName}
use Rattle.c_fewer_types.proofs.FewerTypedRules.{after_is, both_is}
use Rattle.c_fewer_calls.specs.Standing.{FunctionStands, MaybeStands}
use Rattle.c_fewer_names.specs.FewerKnownLaws.{operators}
use Rattle.c_fewer_reached.proofs.Reached.{reached_are_defined}
use Rattle.c_fewer_reached.proofs.Kept.{kept_are_defined, defined_are_kept}
use Rattle.c_programs.specs.Programs.{IsProgram}
use Rattle.c_fewer_names.specs.Names.{fewer_items, kept_in, is_reached, passes}
use Rattle.c_fewer_names.proofs.Whole.{helpers_call_defined, strange_parts}
use Rattle.c_compiled.proofs.There.{helpers_of_programs_are_there}
use Rattle.c_fewer_names.proofs.Typed.{programs_stay_typed}
use Rattle.c_compiled.proofs.MeaningKeptFound.{is_named, missing}
use Rattle.c_compiled.proofs.Stand.{stand}
use Rattle.c_rates.specs.Rates.{ration}
use Rattle.c_compiled.proofs.Programs.{IsMade}
use Rattle.c_compiled.proofs.Names.{unknown, never}

-- ---- what a text defines is found in it

abbrev function_of : Scope → List ℕ → List CDecl → CStmt → Signature → Definition
function_of s n params body f = record { name = n; result = f.result; params = map (λ (d : CDecl). d.name) params; scope = body_scope s n f; body = body }

found_in : (s : Scope) (n : List ℕ) (params : List CDecl) (body : CStmt) (f : Signature) (name : List ℕ) (rest : List Definition) (others : Bool) (b : Bool) → bytes_eq name n ≡ b → (b || others) ≡ true → (others ≡ true → is_some (find (is_named name) rest) ≡ true)
    → is_some (find (is_named name) (definition_in s n params body (Ok f) ++ rest)) ≡ true
found_in s n params body f name rest others true k e more = ap (λ b. is_some (cond b (Some (function_of s n params body f)) (find (is_named name) rest))) k
found_in s n params body f name rest others false k e more = ap (λ b. is_some (cond b (Some (function_of s n params body f)) (find (is_named name) rest))) k ∙ more e

present_function : (s : Scope) (n : List ℕ) (params : List CDecl) (body : CStmt) (q : Judged Signature) (f : Signature) (name : List ℕ) (rest : List Definition) (others : Bool) (b : Bool) → bytes_eq name n ≡ b → q ≡ Ok f → (b || others) ≡ true
    → (others ≡ true → is_some (find (is_named name) rest) ≡ true) → is_some (find (is_named name) (definition_in s n params body q ++ rest)) ≡ true
present_function s n params body q f name rest others b k told e more =
    subst (λ z. is_some (find (is_named name) (definition_in s n params body z ++ rest)) ≡ true) (sym told) (found_in s n params body f name rest others b k e more)

present : (items : List CItem) (s r : Scope) → all_items s items ≡ Ok r → (name : List ℕ) → contains (defined_in items) name ≡ true → is_some (find (is_named name) (definitions s items)) ≡ true
present [] s r e name c = absurd (cc c)
present (plain.StructItem tag ∷ items) s r e name c =
    let l = both_is (item_judged s (plain.StructItem tag)) (all_items (scope_or s (item_judged s (plain.StructItem tag))) items) (λ _ inner. Ok inner) r e in
    present items (scope_or s (item_judged s (plain.StructItem tag))) l.1.0 l.1.2 name c
present (plain.Object d ∷ items) s r e name c =
    let l = both_is (item_judged s (plain.Object d)) (all_items (scope_or s (item_judged s (plain.Object d))) items) (λ _ inner. Ok inner) r e in
    present items (scope_or s (item_judged s (plain.Object d))) l.1.0 l.1.2 name c
present (plain.Function n at result params None ∷ items) s r e name c =
    let l = both_is (item_judged s (plain.Function n at result params None)) (all_items (scope_or s (item_judged s (plain.Function n at result params None))) items) (λ _ inner. Ok inner) r e in
    present items (scope_or s (item_judged s (plain.Function n at result params None))) l.1.0 l.1.2 name c
present (plain.Function n at result params (Some body) ∷ items) s r e name c =
    let item : CItem = plain.Function n at result params (Some body) in
    let l = both_is (item_judged s item) (all_items (scope_or s (item_judged s item)) items) (λ _ inner. Ok inner) r e in
    let k = after_is (signature s at result params) (λ f. declared_function s n at (Some body) f) l.0 l.1.1 in
    present_function s n params body (signature s at result params) k.0 name (definitions (scope_or s (item_judged s item)) items) (contains (defined_in items) name) (bytes_eq name n) refl k.1 c
    (λ d. present items (scope_or s (item_judged s item)) l.1.0 l.1.2 name d)

-- ---- what is kept

abbrev none_found : Option Definition
none_found = None

module _ (u : CUnit) (p : IsProgram u) where
  abbrev own : List (List ℕ)
  own = defined_in u.items

  abbrev test : List ℕ → Bool
  test = passes (kept_in u) own

  abbrev reached : List ℕ → Bool
  reached = is_reached (kept_in u) own

  abbrev kept : List ℕ → Bool
  kept name = contains (kept_in u) name

  pub keeps : (name : List ℕ) (f : Definition) → function_named (text_of (desugared u)) name ≡ Some f → kept name ≡ true
  keeps name f e = go (contains (defined_in (desugared u).items) name) refl
    where
      go : (b : Bool) → contains (defined_in (desugared u).items) name ≡ b → kept name ≡ true
      go true k = (defined_are_kept (kept_in u) (with_helpers (fewer_items u)) name k).0
      go false k =
          let lost : function_named (text_of (desugared u)) name ≡ none_found = missing (desugared u).items (start_scope (desugared u)) name k in
          let same : none_found ≡ Some f = sym lost ∙ e in
          absurd (cc same)

  found : (name : List ℕ) → kept name ≡ true → is_some (function_named (text_of (desugared u)) name) ≡ true
  found name k =
      let all : List CItem = with_helpers (fewer_items u) in
      let typed = programs_stay_typed u p in
      present (desugared u).items (start_scope (desugared u)) typed.0 typed.1 name (kept_are_defined (kept_in u) all name k (reached_are_defined all name k))

  functions : (name : List ℕ) (g : Definition) → IsTextName name → function_named (text_of (desugared u)) name ≡ Some g → (f : Definition) × (function_named (text_of u) name ≡ Some f) × FunctionStands test reached f g
  functions name g n e =
      let r : reached name ≡ true = ap₂ (λ a b. not a && (b || not (contains own name))) n (keeps name g e) in
      go (function_named (text_of u) name) refl (subst (λ z. MaybeStands test reached (function_named (text_of u) name) z) e (stand u p name r))
    where
      go : (o : Option Definition) → function_named (text_of u) name ≡ o → MaybeStands test reached o (Some g) → (f : Definition) × (function_named (text_of u) name ≡ Some f) × FunctionStands test reached f g
      go None k h = absurd h
      go (Some f) k h = (f, k, h)

  text : (name : List ℕ) → test name ≡ true → IsTextName name → contains own name ≡ true → kept name ≡ true
  text name t n d = go (list_any is_strange name) n (contains own name) d (contains (kept_in u) name) t
    where
      go : (b : Bool) → b ≡ false → (c : Bool) → c ≡ true → (k : Bool) → ((not b && (k || not c)) || (b && (k && (is_some (meaning operators name) || is_format name)))) ≡ true → k ≡ true
      go true e c f k h = absurd (cc e)
      go false e false f k h = absurd (cc f)
      go false e true f true h = refl
      go false e true f false h = absurd (cc h)

  pub made : IsMade u test reached kept
  made = record {
    has = (let calls = helpers_call_defined u p in helpers_of_programs_are_there u ration p calls.0 calls.1 (omega arith));
    keeps = keeps;
    found = found;
    functions = functions;
    text = text;
    strange = λ name t s. (let k = strange_parts u p name s t in (k.0, unknown name (λ z. (is_some (meaning operators z) || is_format z) ≡ true) k.1 (λ e. never e) (λ e. never e) (λ e. never e)));
  }
