-- The longest name or number at the front of a text.
use Rattle.std.proofs.Common.{◌≡◌, ℕ, suc, ◌+◌, ◌<◌, Bool, true, false, List, [], ◌∷◌, ◌++◌, length, take, drop, refl, sym, ap, ◌∙◌, subst, arith}
use Rattle.std.proofs.lemmas.Bool.Decides.{nat_tests}
use Rattle.std.proofs.lemmas.List.{take-append-drop}
use Rattle.std.proofs.lemmas.List.Folds.{length-prefix_len}
use Rattle.std.specs.Prelude.{cond, ◌&&◌, ◌==◌}
use Rattle.std.specs.List.{prefix_len, take_while, list_all}
use Rattle.std.specs.Char.{is_digit, is_ascii_digit}
use Rattle.c_syntax.specs.declared.token.RawKind.{RawKind}
use Rattle.c_syntax.specs.declared.token.RawKind.TheVariants.{Plain}
use Rattle.c_syntax.specs.declared.front.Lexeme.{Lexeme}
use Rattle.c_syntax.specs.declared.front.Lexeme.TheVariants.{Token, Number}
use Rattle.c_syntax.specs.Bytes.{line_feed, is_blank, is_feed, starts_name, goes_on_name, is_suffix, begins, value_of}
use Rattle.c_syntax.specs.Front.{word_kind, radix_of, prefix_of, number_kind, number_behind, number_at, number_front, front}
use Rattle.c_syntax.specs.Laws.{WordsAreLongest, NumbersAreLongest}
use Rattle.c_syntax.proofs.Fronts.{number_run}

-- each byte of a run passes, and the one behind it doesn't
all_pass : (p : ℕ → Bool) (bytes : List ℕ) → list_all p (take_while p bytes) ≡ true
all_pass p [] = refl
all_pass p (b ∷ bytes) = at (p b) refl (all_pass p bytes) where
  at : (t : Bool) → p b ≡ t → list_all p (take_while p bytes) ≡ true → list_all p (take (cond t (1 + prefix_len p bytes) 0) (b ∷ bytes)) ≡ true
  at true e ih = let one : 1 + prefix_len p bytes ≡ suc (prefix_len p bytes) = omega arith in ap (λ n. list_all p (take n (b ∷ bytes))) one ∙ ap (λ c. c && list_all p (take_while p bytes)) e ∙ ih
  at false e ih = refl

stops : (p : ℕ → Bool) (bytes : List ℕ) → begins p (drop (prefix_len p bytes) bytes) ≡ false
stops p [] = refl
stops p (b ∷ bytes) = at (p b) refl (stops p bytes) where
  at : (t : Bool) → p b ≡ t → begins p (drop (prefix_len p bytes) bytes) ≡ false → begins p (drop (cond t (1 + prefix_len p bytes) 0) (b ∷ bytes)) ≡ false
  at true e ih = let one : 1 + prefix_len p bytes ≡ suc (prefix_len p bytes) = omega arith in ap (λ n. begins p (drop n (b ∷ bytes))) one ∙ ih
  at false e ih = e

-- a byte of one kind is of no other
blank_apart : (b : ℕ) → starts_name b ≡ true → is_blank b ≡ false
blank_apart b h = grind (arith, nat_tests)

line_apart : (b : ℕ) → starts_name b ≡ true → (b == line_feed) ≡ false
line_apart b h = grind (arith, nat_tests)

feed_apart : (b : ℕ) → starts_name b ≡ true → is_feed b ≡ false
feed_apart b h = grind (arith, nat_tests)

digit_blank : (b : ℕ) → is_ascii_digit b ≡ true → is_blank b ≡ false
digit_blank b h = grind (arith, nat_tests)

digit_line : (b : ℕ) → is_ascii_digit b ≡ true → (b == line_feed) ≡ false
digit_line b h = grind (arith, nat_tests)

digit_feed : (b : ℕ) → is_ascii_digit b ≡ true → is_feed b ≡ false
digit_feed b h = grind (arith, nat_tests)

digit_name : (b : ℕ) → is_ascii_digit b ≡ true → starts_name b ≡ false
digit_name b h = grind (arith, nat_tests)

when {ℓ} : {X : Type ℓ} (t : Bool) (x y : X) → t ≡ true → cond t x y ≡ x
when t x y h = ap (λ c. cond c x y) h

unless {ℓ} : {X : Type ℓ} (t : Bool) (x y : X) → t ≡ false → cond t x y ≡ y
unless t x y h = ap (λ c. cond c x y) h

word_front : (b : ℕ) (bytes : List ℕ) → starts_name b ≡ true → front (b ∷ bytes) ≡ (Token (Plain (word_kind (take_while goes_on_name (b ∷ bytes)))), prefix_len goes_on_name (b ∷ bytes))
unfolding front
word_front b bytes h = unless _ _ _ (blank_apart b h) ∙ unless _ _ _ (line_apart b h) ∙ unless _ _ _ (feed_apart b h) ∙ when _ _ _ h

digit_front : (b : ℕ) (bytes : List ℕ) → is_ascii_digit b ≡ true → front (b ∷ bytes) ≡ number_front (b ∷ bytes)
unfolding front
digit_front b bytes h = unless _ _ _ (digit_blank b h) ∙ unless _ _ _ (digit_line b h) ∙ unless _ _ _ (digit_feed b h) ∙ unless _ _ _ (digit_name b h) ∙ when _ _ _ h

pub words_are_longest : WordsAreLongest
words_are_longest = λ b bytes h.
    let n = prefix_len goes_on_name (b ∷ bytes) in (
      take n (b ∷ bytes),
      drop n (b ∷ bytes),
      sym (take-append-drop n (b ∷ bytes)),
      word_front b bytes h ∙ ap (λ (m : ℕ). (Token (Plain (word_kind (take n (b ∷ bytes)))), m)) (sym (length-prefix_len goes_on_name (b ∷ bytes))),
      all_pass goes_on_name (b ∷ bytes),
      stops goes_on_name (b ∷ bytes),
    )

-- a number behind its prefix, by its digits and what follows them
abbrev lexeme_of : RawKind × ℕ → Lexeme × ℕ
lexeme_of x = (Number x.0, x.1)

abbrev with_digits : ℕ → ℕ → List ℕ → List ℕ → Lexeme × ℕ
with_digits radix prefix digits rest = (Number (number_kind (value_of radix digits) (begins is_suffix rest)), prefix + length digits + cond (begins is_suffix rest) 1 0)

abbrev numbered : ℕ → List ℕ → Bool → ℕ → Lexeme × ℕ
numbered radix digits t n = (Number (number_kind (value_of radix digits) t), n)

number_parts : (radix prefix : ℕ) (bs : List ℕ) → lexeme_of (number_behind radix prefix bs) ≡ with_digits radix prefix (take_while (λ c. is_digit c radix) (drop prefix bs)) (drop (prefix_len (λ c. is_digit c radix) (drop prefix bs)) (drop prefix bs))
unfolding number_behind
number_parts radix prefix bs = at (begins is_suffix (drop run (drop prefix bs))) where
  run : ℕ
  run = prefix_len (λ c. is_digit c radix) (drop prefix bs)

  digits : List ℕ
  digits = take_while (λ c. is_digit c radix) (drop prefix bs)

  len : length digits ≡ run
  len = length-prefix_len (λ c. is_digit c radix) (drop prefix bs)

  at : (t : Bool) → lexeme_of (cond t (number_kind (value_of radix digits) true, prefix + run + 1) (number_kind (value_of radix digits) false, prefix + run)) ≡ numbered radix digits t (prefix + length digits + cond t 1 0)
  at true = ap (λ n. numbered radix digits true (prefix + n + 1)) (sym len)
  at false = let sum : prefix + run ≡ prefix + length digits + 0 = omega (arith, len) in ap (numbered radix digits false) sum

pub numbers_are_longest : NumbersAreLongest
unfolding number_at
numbers_are_longest = λ b bytes h.
    let bs = b ∷ bytes in
    let behind = drop (prefix_of bs) bs in
    let n = prefix_len (λ c. is_digit c (radix_of bs)) behind in (
      take n behind,
      drop n behind,
      sym (ap (λ z. take (prefix_of bs) bs ++ z) (take-append-drop n behind) ∙ take-append-drop (prefix_of bs) bs),
      subst (λ m. 0 < m) (sym (length-prefix_len (λ c. is_digit c (radix_of bs)) behind)) (number_run b bytes h),
      all_pass (λ c. is_digit c (radix_of bs)) behind,
      stops (λ c. is_digit c (radix_of bs)) behind,
      digit_front b bytes h ∙ number_parts (radix_of bs) (prefix_of bs) bs,
    )
