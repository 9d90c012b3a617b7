-- Each program with fewer operators stands for the program.
use Rattle.std.proofs.Common.{◌≡◌, ℕ, ◌≤◌, ◌^◌, List, [], ◌∷◌, ◌++◌, Option, None, Bool, true, false, refl, sym, ap, ◌∙◌, subst}
use Rattle.std.specs.Prelude.{◌&&◌, ◌||◌, not, map}
use Rattle.std.specs.List.{list_any, find}
use Rattle.std.proofs.lemmas.Bool.{and_parts}
use Rattle.c_syntax.specs.Plain.{CUnit}
use Rattle.c_types.specs.Scope.{file_scope, contains}
use Rattle.c_types.specs.Units.{defined_in, start_scope}
use Rattle.c_eval.specs.Text.{Definition, definitions, file_objects, behind_items, file_start, text_of, function_named}
use Rattle.c_eval.specs.Helpers.{helper_rules}
use Rattle.c_valid.specs.Valid.{AreBytes}
use Rattle.c_valid.specs.Laws.{FunctionsAreLimited}
use Rattle.c_limited.proofs.Whole.{typed_texts_are_limited}
use Rattle.c_helpers.specs.Laws.{is_strange}
use Rattle.c_helpers.specs.Simple.{kept, desugared, helpers_of}
use Rattle.c_fewer_types.specs.Standing.{IsTextName}
use Rattle.c_fewer_values.specs.Helping.{difference_name}
use Rattle.c_fewer_reached.proofs.Kept.{defined_are_kept}
use Rattle.c_fewer_items.specs.Laws.{place}
use Rattle.c_fewer_items.proofs.Items.{found_stands}
use Rattle.c_fewer_items.proofs.Cells.{objects_same}
use Rattle.c_fewer_items.proofs.Joined.{definitions_are_joined, fronts_have_no_objects, fronts_have_own_names}
use Rattle.c_fewer_calls.specs.Standing.{MaybeStands, HelpDoes}
use Rattle.c_fewer_calls.proofs.Helps.{helpers_do}
use Rattle.c_fewer_items.proofs.SmallElementsWhole.{typed_texts_are_ordinary}
use Rattle.c_fewer_items.proofs.Fronts.{fronts_are_limited}
use Rattle.c_fewer_names.proofs.Starts.{file_objects_are_named}
use Rattle.c_programs.specs.Programs.{IsProgram}
use Rattle.c_compiled.proofs.There.{helpers_of_programs_are_there}
use Rattle.c_fewer_names.specs.Names.{fewer_items, kept_in, formats_of, defined_of, is_reached, passes}
use Rattle.c_fewer_names.proofs.Front.{front_others}
use Rattle.c_fewer_names.proofs.Whole.{main_is_reached, items_are_fit, firsts_start, bodies_are_reached, helpers_call_defined, strange_parts}
use Rattle.c_fewer_names.proofs.Typed as program
use Rattle.c_compiled.specs.MeaningKeptLaws.{ProgramStands, DesugaredTextsStand, DesugaringKeepsMeaning}
use Rattle.c_compiled.proofs.MeaningKeptNames.{none_stands}
use Rattle.c_compiled.proofs.MeaningKeptWhole.{meaning_follows}
use Rattle.c_compiled.proofs.MeaningKeptFound.{is_named, missing, facts_of, function_stands, both_limited, stay_limited}

not_true : (b : Bool) → not b ≡ true → b ≡ false
not_true true e = absurd (cc e)
not_true false e = refl

abbrev nothing : Option Definition
nothing = None

module _ (u : CUnit) (p : IsProgram u) where
  abbrev own : List (List ℕ)
  own = defined_in u.items

  abbrev reached : List ℕ → Bool
  reached = is_reached (kept_in u) own

  abbrev test : List ℕ → Bool
  test = passes (kept_in u) own

  text_is : (name : List ℕ) → reached name ≡ true → IsTextName name
  text_is name e = not_true (list_any is_strange name) (and_parts (not (list_any is_strange name)) (contains (kept_in u) name || not (contains own name)) e).0

  -- ---- functions

  abbrev before : List Definition
  before = definitions (start_scope u) u.items

  abbrev behind : List Definition
  behind = definitions (program.between u p) (program.rest u p)

  abbrev first : List Definition
  first = definitions (file_scope (defined_of u)) (program.front u p)

  functions_are : (text_of (desugared u)).functions ≡ first ++ behind
  functions_are =
      ap (λ z. definitions (file_scope (defined_of u)) z) (program.items_are u p)
      ∙ definitions_are_joined (program.front u p) (program.rest u p) (file_scope (defined_of u)) (program.between u p) (program.front_typed u p)

  found : (name : List ℕ) → IsTextName name → function_named (text_of (desugared u)) name ≡ find (is_named name) behind
  found name n = ap (λ z. find (is_named name) z) functions_are ∙ fronts_have_own_names (kept_in u) (program.helpers u p) (file_scope (defined_of u)) name behind (front_others (formats_of u) name n)

  kept_stands : (name : List ℕ) → contains (kept_in u) name ≡ true → MaybeStands test reached (find (is_named name) before) (find (is_named name) behind)
  kept_stands name k =
      function_stands test reached (kept_in u) (find (is_named name) before) (find (is_named name) behind) (found_stands test (kept_in u) name before behind k (program.text_goes u p).functions)
      (facts_of (kept_in u) (λ name. reached name ≡ true) before (typed_texts_are_limited u p.typed p.small p.bytes).functions (typed_texts_are_ordinary test (kept_in u) u (program.between u p) (program.stands u p) (items_are_fit u p) p.typed p.small p.bytes) (bodies_are_reached u p) name k)

  -- a name that no function has that is kept is no function's
  other_stands : (name : List ℕ) → contains (kept_in u) name ≡ false → contains own name ≡ false → MaybeStands test reached (find (is_named name) before) (find (is_named name) behind)
  other_stands name k o = subst (λ z. MaybeStands test reached z (find (is_named name) behind)) (sym (missing u.items (start_scope u) name o)) (subst (λ z. MaybeStands test reached nothing z) (sym (missing (program.rest u p) (program.between u p) name (none (contains (defined_in (program.rest u p)) name) refl))) tt)
    where
      none : (b : Bool) → contains (defined_in (map (kept (kept_in u)) (fewer_items u))) name ≡ b → b ≡ false
      none true e = absurd (cc (sym k ∙ (defined_are_kept (kept_in u) (fewer_items u) name e).0))
      none false e = refl

  pub stand : (name : List ℕ) → reached name ≡ true → MaybeStands test reached (function_named (text_of u) name) (function_named (text_of (desugared u)) name)
  stand name r =
      subst (λ z. MaybeStands test reached (find (is_named name) before) z) (sym (found name (text_is name r)))
      (go (contains (kept_in u) name) refl (contains own name) refl (and_parts (not (list_any is_strange name)) (contains (kept_in u) name || not (contains own name)) r).1)
    where
      go : (b : Bool) → contains (kept_in u) name ≡ b → (c : Bool) → contains own name ≡ c → (b || not c) ≡ true → MaybeStands test reached (find (is_named name) before) (find (is_named name) behind)
      go true k c o e = kept_stands name k
      go false k true o e = absurd (cc e)
      go false k false o e = other_stands name k o

  all_limited : FunctionsAreLimited (text_of (desugared u)).functions
  all_limited =
      subst (λ z. FunctionsAreLimited z) (sym functions_are)
      (both_limited first behind (fronts_are_limited (kept_in u) (defined_of u) (formats_of u)) (stay_limited test (kept_in u) before behind (program.text_goes u p).functions (typed_texts_are_limited u p.typed p.small p.bytes).functions))

  -- ---- objects

  objects_are : (text_of (desugared u)).objects ≡ (text_of u).objects
  objects_are =
      ap (λ z. file_objects z (place (file_scope (defined_of u)) [] 0 0)) (program.items_are u p)
      ∙ ((fronts_have_no_objects (kept_in u) (program.helpers u p) (program.rest u p) (file_scope (defined_of u)) (program.between u p) (program.front_typed u p) [] 0 0).0
      ∙ (objects_same test (kept_in u) u.items (start_scope u) (program.between u p) (program.typed u p).end (program.stands u p) (items_are_fit u p) (program.typed u p).items [] 0 0).cells)

  names_are : (text_of (desugared u)).names ≡ (text_of u).names
  names_are =
      ap (λ z. (behind_items z (place (file_scope (defined_of u)) [] 0 0)).objects) (program.items_are u p)
      ∙ (ap (λ z. z.objects) (fronts_have_no_objects (kept_in u) (program.helpers u p) (program.rest u p) (file_scope (defined_of u)) (program.between u p) (program.front_typed u p) [] 0 0).1
      ∙ (objects_same test (kept_in u) u.items (start_scope u) (program.between u p) (program.typed u p).end (program.stands u p) (items_are_fit u p) (program.typed u p).items [] 0 0).names_are)

  -- ---- helper functions

  does : (input : List ℕ) (ration : ℕ) → 2 ^ 9 ≤ ration → (name : List ℕ) → test name ≡ true → HelpDoes (helper_rules (helpers_of ration u) (text_of (desugared u)) input) name
  does input ration enough name t = go (list_any is_strange name) refl
    where
      go : (b : Bool) → list_any is_strange name ≡ b → HelpDoes (helper_rules (helpers_of ration u) (text_of (desugared u)) input) name
      go true s =
          let calls = helpers_call_defined u p in
          helpers_do (helpers_of ration u) (text_of (desugared u)) input (λ other. contains (kept_in u) other) (helpers_of_programs_are_there u ration p calls.0 calls.1 enough) name (strange_parts u p name s t).0
      go false n = record {
        does = λ action e other. absurd (cc (sym e ∙ none_stands name n));
        differs = λ e. absurd (cc (sym n ∙ ap (λ z. list_any is_strange z) e));
      }

pub desugared_texts_stand : DesugaredTextsStand
desugared_texts_stand u input ration p bytes enough = record {
  test = passes (kept_in u) (defined_in u.items);
  reached = is_reached (kept_in u) (defined_in u.items);
  main = main_is_reached u p;
  names = names_are u p;
  objects = objects_are u p;
  text = text_is u p;
  functions = stand u p;
  limited = all_limited u p;
  does = does u p input ration enough;
  named = file_objects_are_named (is_reached (kept_in u) (defined_in u.items)) u.items (file_start u) (firsts_start u p);
}

pub desugaring_keeps_meaning : DesugaringKeepsMeaning
desugaring_keeps_meaning = meaning_follows desugared_texts_stand
