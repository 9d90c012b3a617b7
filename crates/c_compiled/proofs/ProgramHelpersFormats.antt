-- The function of a format is found where it stands.
use Rattle.std.proofs.Common.{◌≡◌, ℕ, suc, ◌^◌, ◌<◌, List, [], ◌∷◌, ◌++◌, map, length, Some, None, Bool, true, false, refl, sym, ap, ap₂, ◌∙◌, subst, cond}
use Rattle.std.specs.Prelude.{◌||◌, not, if◌then◌else◌}
use Rattle.std.specs.Option.{option_map_or}
use Rattle.std.specs.List.{find}
use Rattle.std.specs.Str.{bytes_eq}
use Rattle.std.specs.declared.option.Option.{Option}
use Rattle.std.proofs.lemmas.Bool.{and_parts}
use Rattle.std.proofs.lemmas.Slice.Eq.{bytes_eq-Decides}
use Rattle.c_syntax.specs.Plain as plain
use Rattle.c_syntax.specs.Plain.{CDecl, CItem}
use Rattle.c_syntax.specs.Words.{meaning}
use Rattle.c_types.specs.Types as type
use Rattle.c_types.specs.Scope.{Names, Scope, Routine, contains}
use Rattle.c_types.specs.Operands.{conversions_of}
use Rattle.c_types.specs.Declarations.{scope_or}
use Rattle.c_types.specs.Units.{item_judged}
use Rattle.c_eval.specs.Text.{Definition, definition_in, item_definitions, definitions}
use Rattle.c_helpers.specs.Functions.{Helper, print_format, format_name, argument_name, arguments_from}
use Rattle.c_helpers.specs.Laws.{are_distinct}
use Rattle.c_helpers.specs.Fewer.{function_of}
use Rattle.c_helpers.specs.Simple.{kept}
use Rattle.c_fewer_types.specs.Stands.{function_type}
use Rattle.c_products.specs.MovesFound.{definition}
use Rattle.c_formats.specs.Laws.{parameters_from, format_parameters}
use Rattle.c_fewer_items.specs.FewerHeadsLaws.{all_functions, helper_items, file, KnowsCalls}
use Rattle.c_fewer_items.proofs.Typed.{block_from, outside, other}
use Rattle.c_fewer_items.proofs.FewerFrontsHeads.{signature_is, block_same}
use Rattle.c_fewer_items.specs.FewerFrontsLaws.{AreFormats, FormatsCallDefined}
use Rattle.c_fewer_items.proofs.FewerFrontsProofs.{same_format, not_true, AreFresh, IsBehind, behind_next, fresh_next, step, begun, entity}
use Rattle.c_fewer_items.proofs.Joined.{is_named, item_passed}

-- its definition, with its conversions, in a scope that knows all other helper functions
pub record FormatIsFound (names defined : List (List ℕ)) (format : List ℕ) (o : Option Definition) : Type 0 where
  pub letters : List ℕ
  pub conversions : conversions_of format ≡ Some letters
  pub few : length letters < 2 ^ 24
  pub outside : Names
  pub knows : (name : List ℕ) (c : Helper) → meaning all_functions name ≡ Some c → meaning outside name ≡ Some (Routine (function_type c) (contains names name))
  pub is : o ≡ Some (definition type.Void (format_parameters letters) (print_format format) [] outside defined)

arguments_named : (letters : List ℕ) (i : ℕ) → map (λ (d : CDecl). d.name) (arguments_from i letters) ≡ map (λ x. x.0) (parameters_from i letters)
arguments_named [] i = refl
arguments_named (l ∷ ls) i = ap (λ xs. argument_name i ∷ xs) (arguments_named ls (suc i))

module _ (names defined : List (List ℕ)) (closed : FormatsCallDefined names defined) where
  abbrev there : Names → Scope
  there block = file defined block

  knows_calls : (block : Names) (f : List ℕ) → IsBehind names defined closed block → meaning block (format_name f) ≡ None → contains names (format_name f) ≡ true → KnowsCalls (begun names defined closed) (there block) (print_format f)
  knows_calls block f a fresh k = record { outer = refl; fresh = fresh; calls = λ name c e m. (a.known name c e, closed f name c k e m); put = a.put }

  own_definition : (block : Names) (f letters : List ℕ) (k : KnowsCalls (begun names defined closed) (there block) (print_format f)) → conversions_of f ≡ Some letters → length letters < 2 ^ 24
      → item_definitions (there block) (function_of (print_format f)) ≡ definition type.Void (format_parameters letters) (print_format f) [] (outside (begun names defined closed) (there block) (print_format f) k) defined ∷ []
  own_definition block f letters k conversions few =
      let g : Helper = print_format f in
      let params : g.params ≡ arguments_from 0 letters = ap (λ o. arguments_from 0 (option_map_or (λ ls. ls) o [])) conversions in
      let around : Names = outside (begun names defined closed) (there block) g k in
      ap (λ q. definition_in (there block) g.name g.params g.body q) (signature_is (there block) letters g.params params few)
      ∙ ap₂ (λ ps xs. record { name = g.name; result = type.Void; params = ps; scope = record { tags = []; block = xs; outer = around; defined = defined }; body = g.body } ∷ [])
      (ap (λ ds. map (λ (d : CDecl). d.name) ds) params ∙ arguments_named letters 0) (ap (λ ds. block_from ds []) params ∙ block_same letters 0 [])

  found_here : (block : Names) (f : List ℕ) (rest : List Definition) → IsBehind names defined closed block → meaning block (format_name f) ≡ None → AreFormats (f ∷ []) → contains names (format_name f) ≡ true
      → FormatIsFound names defined f (find (is_named (format_name f)) (item_definitions (there block) (kept names (function_of (print_format f))) ++ rest))
  found_here block f rest a fresh h k =
      let c = knows_calls block f a fresh k in
      let around : Names = outside (begun names defined closed) (there block) (print_format f) c in
      let own : Definition = definition type.Void (format_parameters h.0.0) (print_format f) [] around defined in
      let is : item_definitions (there block) (kept names (function_of (print_format f))) ≡ own ∷ [] =
      ap (λ b. item_definitions (there block) (plain.Function (format_name f) 0 (print_format f).result (print_format f).params (if b then Some (print_format f).body else None))) k ∙ own_definition block f h.0.0 c h.0.1 h.0.2 in
      record {
        letters = h.0.0;
        conversions = h.0.1;
        few = h.0.2;
        outside = around;
        knows = λ name x e. other (begun names defined closed) (there block) (print_format f) c name (Routine (function_type x) (contains names name)) (a.known name x e);
        is = ap (λ ds. find (is_named (format_name f)) (ds ++ rest)) is ∙ ap (λ b. cond b (Some own) (find (is_named (format_name f)) rest)) ((bytes_eq-Decides (format_name f) (format_name f)).1 refl);
      }

  other_name : (f format : List ℕ) → bytes_eq format f ≡ false → bytes_eq (format_name format) (format_name f) ≡ false
  other_name f format e = go (bytes_eq (format_name format) (format_name f)) refl
    where
      go : (b : Bool) → bytes_eq (format_name format) (format_name f) ≡ b → b ≡ false
      go true k = absurd (cc (sym ((bytes_eq-Decides format f).1 (sym ((bytes_eq-Decides f format).0 (same_format f format k)))) ∙ e))
      go false k = refl

  pub format_is_found : (fs : List (List ℕ)) (block : Names) (format : List ℕ) → IsBehind names defined closed block → AreFresh block fs → AreFormats fs → are_distinct fs ≡ true → contains fs format ≡ true → contains names (format_name format) ≡ true
      → FormatIsFound names defined format (find (is_named (format_name format)) (definitions (there block) (helper_items names (map print_format fs))))
  format_is_found [] block format a fresh h d c k = absurd (cc c)
  format_is_found (f ∷ fs) block format a fresh h d c k =
      let p = and_parts (not (contains fs f)) (are_distinct fs) d in
      let next : Names = (format_name f, entity names defined closed f) ∷ block in
      let s = step names defined closed block f a fresh.0 (h.0, tt) in
      let item : CItem = kept names (function_of (print_format f)) in
      let behind : scope_or (there block) (item_judged (there block) item) ≡ there next = ap (λ q. scope_or (there block) q) s in
      let rest : List Definition = definitions (there next) (helper_items names (map print_format fs)) in
      let later : contains fs format ≡ true → FormatIsFound names defined format (find (is_named (format_name format)) rest) =
      λ c. format_is_found fs next format (behind_next names defined closed block f a fresh.0) (fresh_next names defined closed block f fs (not_true (contains fs f) p.0) fresh.1) h.1 p.1 c k in
      subst (λ z. FormatIsFound names defined format (find (is_named (format_name format)) (item_definitions (there block) item ++ definitions z (helper_items names (map print_format fs))))) (sym behind)
      (go rest later (bytes_eq format f) refl c)
    where
      go : (rest : List Definition) → (contains fs format ≡ true → FormatIsFound names defined format (find (is_named (format_name format)) rest)) → (b : Bool) → bytes_eq format f ≡ b → (b || contains fs format) ≡ true
          → FormatIsFound names defined format (find (is_named (format_name format)) (item_definitions (there block) (kept names (function_of (print_format f))) ++ rest))
      go rest later true e c =
          let same : format ≡ f = (bytes_eq-Decides format f).0 e in
          subst (λ z. FormatIsFound names defined z (find (is_named (format_name z)) (item_definitions (there block) (kept names (function_of (print_format f))) ++ rest))) (sym same)
          (found_here block f rest a fresh.0 (h.0, tt) (ap (λ z. contains names (format_name z)) (sym same) ∙ k))
      go rest later false e c =
          subst (λ o. FormatIsFound names defined format o) (sym (item_passed (format_name format) (there block) (print_format f) rest (other_name f format e) (contains names (format_name f)))) (later c)
