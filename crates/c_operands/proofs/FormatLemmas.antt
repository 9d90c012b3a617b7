-- Formats byte by byte.
use Rattle.std.proofs.Common.{◌≡◌, ℕ, zero, suc, ◌+◌, Bool, true, false, not, ◌&&◌, List, [], ◌∷◌, length, drop, Option, Some, None, refl, ap, ◌∙◌, arith, codes}
use Rattle.std.specs.Prelude.{◌==◌, nat_le, option_map, if◌then◌else◌}
use Rattle.std.proofs.Common.{◌<◌, get_or, drop-cons, add-one}
use Rattle.std.specs.Option.{option_map_or}
use Rattle.std.specs.List.{list_any}
use Rattle.std.proofs.lemmas.Bool.Decides.{nat_tests}
use Rattle.c_types.specs.Types as types
use Rattle.c_types.specs.Types.{CType, same_type, is_arithmetic}
use Rattle.c_types.specs.Operands as plain
use Rattle.c_types.specs.Operands.{value_type, are_printed, conversions_behind, is_print_form}
use Rattle.c_operands.specs.Arguments.{printed}

abbrev pub is_letter : ℕ → Bool
is_letter b = list_any (λ c. b == c) (codes "duxcs")

abbrev pub takes : ℕ → plain.Operand → Bool
takes b x = if b == 115 then same_type (value_type x) (types.Pointer types.Char) else is_arithmetic (value_type x)

abbrev judged_by : Option (List ℕ) → List plain.Operand → Bool
judged_by o xs = option_map_or (λ letters. are_printed letters xs) o false

-- behind a percent, by what the byte is
abbrev behind_by : Bool → Bool → ℕ → List ℕ → Option (List ℕ)
behind_by percent letter b format = if percent then conversions_behind false format else if letter then option_map (λ letters. b ∷ letters) (conversions_behind false format) else None

pub percent_again : (b : ℕ) (format : List ℕ) (xs : List plain.Operand) → (b == 37) ≡ true → printed true (b ∷ format) xs ≡ printed false format xs
percent_again b format xs e = ap (λ (t : Bool). judged_by (behind_by t (is_letter b) b format) xs) e

pub no_letter : (b : ℕ) (format : List ℕ) (xs : List plain.Operand) → (b == 37) ≡ false → is_letter b ≡ false → printed true (b ∷ format) xs ≡ false
no_letter b format xs e f =
    ap (λ (t : Bool). judged_by (behind_by t (is_letter b) b format) xs) e
    ∙ ap (λ (t : Bool). judged_by (behind_by false t b format) xs) f

pub letter : (b : ℕ) (format : List ℕ) (xs : List plain.Operand) → (b == 37) ≡ false → is_letter b ≡ true → printed true (b ∷ format) xs ≡ judged_by (option_map (λ letters. b ∷ letters) (conversions_behind false format)) xs
letter b format xs e f =
    ap (λ (t : Bool). judged_by (behind_by t (is_letter b) b format) xs) e
    ∙ ap (λ (t : Bool). judged_by (behind_by false t b format) xs) f

no_argument : (b : ℕ) (o : Option (List ℕ)) → judged_by (option_map (λ letters. b ∷ letters) o) [] ≡ false
no_argument b None = refl
no_argument b (Some letters) = refl

wrong : (b : ℕ) (o : Option (List ℕ)) (x : plain.Operand) (xs : List plain.Operand) → takes b x ≡ false → judged_by (option_map (λ letters. b ∷ letters) o) (x ∷ xs) ≡ false
wrong b None x xs h = refl
wrong b (Some letters) x xs h = ap (λ (t : Bool). t && are_printed letters xs) h

right : (b : ℕ) (o : Option (List ℕ)) (x : plain.Operand) (xs : List plain.Operand) → takes b x ≡ true → judged_by (option_map (λ letters. b ∷ letters) o) (x ∷ xs) ≡ judged_by o xs
right b None x xs h = refl
right b (Some letters) x xs h = ap (λ (t : Bool). t && are_printed letters xs) h

-- a letter with no argument
pub nothing_left : (b : ℕ) (format : List ℕ) (xs : List plain.Operand) → (b == 37) ≡ false → xs ≡ [] → printed true (b ∷ format) xs ≡ false
nothing_left b format xs e h = ap (printed true (b ∷ format)) h ∙ by (is_letter b) refl where
  by : (t : Bool) → is_letter b ≡ t → printed true (b ∷ format) [] ≡ false
  by true f = letter b format [] e f ∙ no_argument b (conversions_behind false format)
  by false f = no_letter b format [] e f

-- one with an argument
pub taken : (b : ℕ) (format : List ℕ) (x : plain.Operand) (xs ys : List plain.Operand) → (b == 37) ≡ false → xs ≡ x ∷ ys → (is_letter b && takes b x) ≡ true → printed true (b ∷ format) xs ≡ printed false format ys
taken b format x xs ys e h f = ap (printed true (b ∷ format)) h ∙ by (is_letter b) refl f where
  by : (t : Bool) → is_letter b ≡ t → (t && takes b x) ≡ true → printed true (b ∷ format) (x ∷ ys) ≡ printed false format ys
  by true g k = letter b format (x ∷ ys) e g ∙ right b (conversions_behind false format) x ys k
  by false g k = absurd cc

pub not_taken : (b : ℕ) (format : List ℕ) (x : plain.Operand) (xs ys : List plain.Operand) → (b == 37) ≡ false → xs ≡ x ∷ ys → (is_letter b && takes b x) ≡ false → printed true (b ∷ format) xs ≡ false
not_taken b format x xs ys e h f = ap (printed true (b ∷ format)) h ∙ by (is_letter b) refl f where
  by : (t : Bool) → is_letter b ≡ t → (t && takes b x) ≡ false → printed true (b ∷ format) (x ∷ ys) ≡ false
  by true g k = letter b format (x ∷ ys) e g ∙ wrong b (conversions_behind false format) x ys k
  by false g k = no_letter b format (x ∷ ys) e g

-- at the end of a format
le_suc : (a b : ℕ) → nat_le a b ≡ nat_le (suc a) (suc b)
le_suc a b = grind (arith, nat_tests)

zero_le : (b : ℕ) → true ≡ nat_le 0 b
zero_le b = grind (arith, nat_tests)

suc_le : (a : ℕ) → false ≡ nat_le (suc a) 0
suc_le a = grind (arith, nat_tests)

pub at_end : (behind : Bool) (xs : List plain.Operand) (used : ℕ) → printed behind [] (drop used xs) ≡ (not behind && nat_le (length xs) used)
at_end true xs used = refl
at_end false [] zero = zero_le 0
at_end false [] (suc used) = zero_le (suc used)
at_end false (x ∷ xs) zero = suc_le (length xs)
at_end false (x ∷ xs) (suc used) = at_end false xs used ∙ le_suc (length xs) used

-- what is left of a format at a byte
pub drop_byte : (format : List ℕ) (i : ℕ) → i < length format → drop i format ≡ get_or format i 0 ∷ drop (i + 1) format
drop_byte format i h = rw (add-one, drop-cons format i 0) refl

-- a format needs an argument, which is the string itself
pub form_as : (r fits : Bool) (count : ℕ) (format : List ℕ) (xs : List plain.Operand) → r ≡ (not (count == 0) && fits) → count ≡ length xs → fits ≡ printed false format (drop 1 xs) → r ≡ is_print_form (Some format) xs
form_as r fits count format [] h e f = h ∙ ap (λ (n : ℕ). not (n == 0) && fits) e
form_as r fits count format (x ∷ xs) h e f = h ∙ (ap (λ (n : ℕ). not (n == 0) && fits) e ∙ (ap (λ (b : Bool). b && fits) (more (length xs)) ∙ f)) where
  more : (n : ℕ) → not (suc n == 0) ≡ true
  more n = grind (arith, nat_tests)
