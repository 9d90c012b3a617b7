-- What is kept of a text is closed: what is named in a body that is kept is kept.
use Rattle.std.proofs.Common.{◌≡◌, ℕ, List, [], ◌∷◌, ◌++◌, Option, Some, None, Bool, true, false, drop, refl, sym, ap, ◌∙◌, subst, cond}
use Rattle.std.specs.Prelude.{◌||◌, ◌&&◌, map, codes, not, is_some}
use Rattle.std.specs.List.{list_any}
use Rattle.std.specs.Str.{bytes_eq}
use Rattle.c_syntax.specs.Plain.{CItem}
use Rattle.c_syntax.specs.Words.{meaning}
use Rattle.c_types.specs.Scope.{contains}
use Rattle.c_types.specs.Units.{defined_in}
use Rattle.c_helpers.specs.Functions.{Helper, print_format, format_name}
use Rattle.c_helpers.specs.Meanings.{is_format}
use Rattle.c_helpers.specs.Names.{stmt_names}
use Rattle.c_helpers.specs.Fewer.{body_names, names_at_file_scope, formats_in}
use Rattle.c_helpers.specs.Simple.{with_helpers, reached, kept_items}
use Rattle.c_fewer_types.specs.Standing.{IsTextName}
use Rattle.c_fewer_reached.proofs.Reached.{reached_is_closed, reached_begins, reached_are_defined}
use Rattle.c_fewer_reached.proofs.Kept.{kept_are_defined}
use Rattle.c_fewer_items.specs.FewerHeadsLaws.{all_functions, firsts, CallsAreDefined}
use Rattle.c_fewer_items.specs.FewerFrontsLaws.{FormatsCallDefined}
use Rattle.c_fewer_names.specs.FewerKnownLaws.{operators}
use Rattle.c_fewer_names.proofs.Front.{by, items_of, head_found, head_passed, head_defined, rest_defined, only_rest, no_values, format_functions, whole_is, no_first, no_format, first_not_format, operator_first, format_is, format_found, format_listed, format_in}

or_last : (a b : Bool) → b ≡ true → (a || b) ≡ true
or_last true b e = refl
or_last false b e = e

module _ (items : List CItem) where
  abbrev all : List CItem
  all = with_helpers items

  abbrev front : List CItem
  front = items_of (format_functions items) ++ items

  abbrev names : List (List ℕ)
  names = reached all

  abbrev parts : List CItem
  parts = items_of firsts ++ front

  -- ---- what is defined

  own_defined : (f : List ℕ) → contains (defined_in items) f ≡ true → contains (defined_in all) f ≡ true
  own_defined f e = subst (λ z. contains (defined_in z) f ≡ true) (sym (whole_is items)) (rest_defined firsts front f (rest_defined (format_functions items) items f e))

  first_defined : (f : List ℕ) (g : Helper) → meaning all_functions f ≡ Some g → contains (defined_in all) f ≡ true
  first_defined f g e = subst (λ z. contains (defined_in z) f ≡ true) (sym (whole_is items)) (head_defined firsts front f g e)

  format_defined : (format : List ℕ) → contains (formats_in items) format ≡ true → contains (defined_in all) (format_name format) ≡ true
  format_defined format e =
      subst (λ z. contains (defined_in z) (format_name format) ≡ true) (sym (whole_is items))
      (rest_defined firsts front (format_name format) (head_defined (format_functions items) items (format_name format) (print_format format) (format_found (formats_in items) format e)))

  -- ---- bodies

  text_body : (f : List ℕ) → IsTextName f → body_names all f ≡ body_names items f
  text_body f n = ap (λ z. body_names z f) (whole_is items) ∙ (head_passed firsts front f (no_first f n) ∙ head_passed (format_functions items) items f (no_format (formats_in items) f n))

  first_body : (f : List ℕ) (g : Helper) → meaning all_functions f ≡ Some g → body_names all f ≡ stmt_names g.body
  first_body f g e = ap (λ z. body_names z f) (whole_is items) ∙ head_found firsts front f g e

  format_body : (format : List ℕ) → contains (formats_in items) format ≡ true → body_names all (format_name format) ≡ stmt_names (print_format format).body
  format_body format e =
      ap (λ z. body_names z (format_name format)) (whole_is items)
      ∙ (head_passed firsts front (format_name format) (first_not_format format) ∙ head_found (format_functions items) items (format_name format) (print_format format) (format_found (formats_in items) format e))

  -- ---- what is kept

  -- what is named in a function of the text that is kept
  pub named_kept : (f g : List ℕ) → IsTextName g → contains (defined_in all) f ≡ true → contains names g ≡ true → contains (body_names items g) f ≡ true → contains names f ≡ true
  named_kept f g n d r e = reached_is_closed all f g d r (ap (λ z. contains z f) (text_body g n) ∙ e)

  pub own_kept : (f g : List ℕ) → IsTextName g → contains (defined_in items) f ≡ true → contains names g ≡ true → contains (body_names items g) f ≡ true → contains names f ≡ true
  own_kept f g n d r e = named_kept f g n (own_defined f d) r e

  pub operator_kept : (f g : List ℕ) → IsTextName g → is_some (meaning operators f) ≡ true → contains names g ≡ true → contains (body_names items g) f ≡ true → contains names f ≡ true
  operator_kept f g n k r e = go (meaning operators f) refl k
    where
      go : (o : Option Helper) → meaning operators f ≡ o → is_some o ≡ true → contains names f ≡ true
      go None l k = absurd (cc k)
      go (Some h) l k = named_kept f g n (first_defined f h (operator_first f h l).0) r e

  pub format_kept : (f g : List ℕ) → IsTextName g → is_format f ≡ true → contains names g ≡ true → contains (body_names items g) f ≡ true → contains names f ≡ true
  format_kept f g n k r e = named_kept f g n (subst (λ z. contains (defined_in all) z ≡ true) (sym (format_is f k)) (format_defined (drop 7 f) (format_in items g f k e))) r e

  pub value_kept : (f : List ℕ) → contains (defined_in items) f ≡ true → contains (names_at_file_scope items) f ≡ true → contains names f ≡ true
  value_kept f d e = reached_begins all f (own_defined f d) (or_last (bytes_eq f (codes "main")) (contains (names_at_file_scope all) f) (ap (λ z. contains (names_at_file_scope z) f) (whole_is items) ∙ (ap (λ z. contains z f) (no_values firsts front ∙ no_values (format_functions items) items) ∙ e)))

  pub main_kept : contains (defined_in items) (codes "main") ≡ true → contains names (codes "main") ≡ true
  main_kept d = reached_begins all (codes "main") (own_defined (codes "main") d) refl

  -- ---- what the text then defines

  abbrev defined : List (List ℕ)
  defined = defined_in (kept_items all)

  pub kept_defined : (f : List ℕ) → contains names f ≡ true → contains defined f ≡ true
  kept_defined f e = kept_are_defined names all f e (reached_are_defined all f e)

  pub calls_defined : CallsAreDefined names defined
  calls_defined name other g c k r l e = kept_defined other (reached_is_closed all other name (first_defined other c l) r (ap (λ z. contains z other) (first_body name g k) ∙ e))

  -- a format whose function is kept is one of the text's
  pub format_of_text : (textual : (f : List ℕ) → contains (defined_in items) f ≡ true → IsTextName f) (format : List ℕ) → contains names (format_name format) ≡ true → contains (formats_in items) format ≡ true
  format_of_text textual format r =
      let d : contains (defined_in parts) (format_name format) ≡ true = ap (λ z. contains (defined_in z) (format_name format)) (sym (whole_is items)) ∙ reached_are_defined all (format_name format) r in
      go (meaning (by (format_functions items)) (format_name format)) refl (only_rest firsts front (format_name format) (first_not_format format) d)
    where
      go : (o : Option Helper) → meaning (by (format_functions items)) (format_name format) ≡ o → contains (defined_in front) (format_name format) ≡ true → contains (formats_in items) format ≡ true
      go (Some g) e d = format_listed (formats_in items) format g e
      go None e d = absurd (cc (textual (format_name format) (only_rest (format_functions items) items (format_name format) e d)))

  pub formats_call_defined : (textual : (f : List ℕ) → contains (defined_in items) f ≡ true → IsTextName f) → FormatsCallDefined names defined
  formats_call_defined textual format other c r l e =
      kept_defined other (reached_is_closed all other (format_name format) (first_defined other c l) r (ap (λ z. contains z other) (format_body format (format_of_text textual format r)) ∙ e))
