-- The conversions of a format, byte by byte.
use Rattle.std.proofs.Common.{◌≡◌, ◌<◌, ◌≤◌, ◌+◌, ℕ, suc, Bool, true, false, List, [], ◌∷◌, ◌++◌, length, drop, get_or, Option, Some, None, refl, sym, ap, ◌∙◌, append_assoc, append-nil, drop-cons, add-one, codes}
use Rattle.std.specs.Prelude.{◌==◌, option_map, if◌then◌else◌}
use Rattle.std.specs.Option.{option_map_or}
use Rattle.std.specs.List.{list_any}
use Rattle.std.proofs.lemmas.List.{drop_all}
use Rattle.c_types.specs.Operands.{conversions_behind, conversions_of}
use Rattle.c_format_terms.specs.Conversions.{behind_text, conversions_from}
use Rattle.c_format_terms.specs.declared.conversions.State.{State}
use Rattle.c_format_terms.specs.declared.conversions.State.TheVariants as state

-- what is left of a format at a byte
pub drop_byte : (format : List ℕ) (i : ℕ) → i < length format → drop i format ≡ get_or format i 0 ∷ drop (i + 1) format
drop_byte format i h = rw (add-one, drop-cons format i 0) refl

pub text_by : (byte : ℕ) (b : Bool) → (byte == 37) ≡ b → (if b then state.Percent else state.Text) ≡ behind_text byte
text_by byte b e = sym (ap (λ (t : Bool). if t then state.Percent else state.Text) e)

-- behind a byte of the text
pub text_first : (byte : ℕ) (format : List ℕ) → conversions_from (behind_text byte) format ≡ conversions_behind false (byte ∷ format)
text_first byte format = by (byte == 37) where
  by : (t : Bool) → conversions_from (if t then state.Percent else state.Text) format ≡ conversions_behind t format
  by true = refl
  by false = refl

abbrev is_letter : ℕ → Bool
is_letter b = list_any (λ c. b == c) (codes "duxcs")

pub percent_again : (byte : ℕ) (format : List ℕ) → (byte == 37) ≡ true → conversions_behind true (byte ∷ format) ≡ conversions_behind false format
percent_again byte format e = ap (λ (t : Bool). if t then conversions_behind false format else if is_letter byte then option_map (λ letters. byte ∷ letters) (conversions_behind false format) else None) e

pub letter_first : (byte : ℕ) (format : List ℕ) (t : Bool) → (byte == 37) ≡ false → is_letter byte ≡ t
    → conversions_behind true (byte ∷ format) ≡ (if t then option_map (λ letters. byte ∷ letters) (conversions_behind false format) else None)
letter_first byte format t e f =
    ap (λ (p : Bool). if p then conversions_behind false format else if is_letter byte then option_map (λ letters. byte ∷ letters) (conversions_behind false format) else None) e
    ∙ ap (λ (p : Bool). if p then option_map (λ letters. byte ∷ letters) (conversions_behind false format) else None) f

-- a letter behind others
pub letter_put : (old : List ℕ) (letter : ℕ) (new : List ℕ) (o : Option (List ℕ)) → new ≡ old ++ letter ∷ []
    → option_map (λ ls. new ++ ls) o ≡ option_map (λ ls. old ++ ls) (option_map (λ ls. letter ∷ ls) o)
letter_put old letter new None e = refl
letter_put old letter new (Some ls) e = ap Some (ap (λ (l : List ℕ). l ++ ls) e ∙ append_assoc old (letter ∷ []) ls)

nothing_before : (o : Option (List ℕ)) → option_map (λ ls. [] ++ ls) o ≡ o
nothing_before None = refl
nothing_before (Some ls) = refl

pub begun : (letters : List ℕ) (format : List ℕ) → letters ≡ [] → option_map (λ ls. letters ++ ls) (conversions_from state.Text format) ≡ conversions_of format
begun letters format e = ap (λ (l : List ℕ). option_map (λ ls. l ++ ls) (conversions_behind false format)) e ∙ nothing_before (conversions_behind false format)

-- at the end of a format
pub ended : (letters : List ℕ) (place : State) (format : List ℕ) (i : ℕ) → length format ≤ i
    → option_map (λ ls. letters ++ ls) (conversions_from place (drop i format)) ≡ conversions_of format → option_map (λ ls. letters ++ ls) (conversions_from place []) ≡ conversions_of format
ended letters place format i past h = sym (ap (λ (l : List ℕ). option_map (λ ls. letters ++ ls) (conversions_from place l)) (drop_all i format past)) ∙ h

-- the letters are all of them in the text, and none elsewhere
pub all_letters : (letters : List ℕ) (place : State) (o : Option (List ℕ)) → option_map (λ ls. letters ++ ls) (conversions_from place []) ≡ o → place ≡ state.Text → letters ≡ option_map_or (λ ls. ls) o []
all_letters letters place o h e =
    sym (append-nil letters)
    ∙ ap (λ (p : Option (List ℕ)). option_map_or (λ ls. ls) p []) (sym (ap (λ (q : State). option_map (λ ls. letters ++ ls) (conversions_from q [])) e) ∙ h)

pub no_letters : (letters : List ℕ) (place : State) (o : Option (List ℕ)) → option_map (λ ls. letters ++ ls) (conversions_from place []) ≡ o → conversions_from place [] ≡ None → [] ≡ option_map_or (λ ls. ls) o []
no_letters letters place o h e =
    ap (λ (p : Option (List ℕ)). option_map_or (λ ls. ls) p []) (sym (ap (λ (q : Option (List ℕ)). option_map (λ ls. letters ++ ls) q) e) ∙ h)
