-- What stands at the front of a text takes some of it, and no more than there is.
use Rattle.std.proofs.Common.{◌≡◌, ℕ, suc, ◌+◌, ◌<◌, ◌≤◌, Bool, true, false, List, [], ◌∷◌, length, take, drop, Option, Some, None, refl, sym, ap, subst, arith, length-take, length-drop}
use Rattle.std.proofs.lemmas.Bool.Decides.{nat_tests}
use Rattle.std.proofs.lemmas.List.Sums.{prefix_len-le-length}
use Rattle.std.specs.Prelude.{cond, not, ◌&&◌, ◌||◌, ◌==◌, nat_eq, Result, Ok, Err, codes}
use Rattle.std.specs.List.{prefix_len, starts_with}
use Rattle.std.specs.Option.{option_map_or}
use Rattle.std.specs.Int.{is_in_range}
use Rattle.std.specs.Char.{is_digit, is_ascii_digit}
use Rattle.c_syntax.specs.declared.token.Kind.{Kind}
use Rattle.c_syntax.specs.declared.token.Kind.TheVariants as kind
use Rattle.c_syntax.specs.declared.token.Mark.{Mark}
use Rattle.c_syntax.specs.declared.token.RawKind.{RawKind}
use Rattle.c_syntax.specs.declared.token.RawKind.TheVariants.{Plain}
use Rattle.c_syntax.specs.declared.front.Lexeme.{Lexeme}
use Rattle.c_syntax.specs.declared.front.Lexeme.TheVariants.{Comment, Token, Number, BadChar, Unclosed}
use Rattle.c_syntax.specs.Bytes.{line_feed, quote, number_sign, apostrophe, star, slash, backslash, is_blank, is_feed, starts_name, goes_on_name, is_suffix, begins, value_of}
use Rattle.c_syntax.specs.Words.{mark_of}
use Rattle.c_syntax.specs.Front.{mark_at, mark_front, is_hex, radix_of, prefix_of, number_kind, number_behind, number_at, number_front, closing, further, unescaped, string_lexeme, string_front, constant_lexeme, constant_front, character_at, comment_end, slash_front, front}
use Rattle.c_syntax.specs.Laws.{is_accepted}

-- a part that isn't refused takes some of so many bytes
pub record Fits (len : ℕ) (x : Lexeme × ℕ) : Type 0 where
  pub fits : is_accepted x.0 ≡ true → (0 < x.1) × (x.1 ≤ len)

accepted : (len n : ℕ) (x : Lexeme) → 0 < n → n ≤ len → Fits len (x, n)
accepted len n x some within = record { fits = λ _. (some, within) }

refused : (len n : ℕ) (x : Lexeme) → is_accepted x ≡ false → Fits len (x, n)
refused len n x h = record { fits = λ a. absurd (cc (a, h)) }

fits_if : (len : ℕ) (c : Bool) (x y : Lexeme × ℕ) → (c ≡ true → Fits len x) → (c ≡ false → Fits len y) → Fits len (cond c x y)
fits_if len true x y f g = f refl
fits_if len false x y f g = g refl

pub is_equal : (b c : ℕ) → (b == c) ≡ true → b ≡ c
is_equal b c h = grind (arith, nat_tests)

pub begins_some : (p : ℕ → Bool) (bytes : List ℕ) → begins p bytes ≡ true → 0 < length bytes
begins_some p [] h = absurd (cc (h))
begins_some p (b ∷ bytes) h = omega arith

-- a run of one byte at least
pub some_run : (p : ℕ → Bool) (b : ℕ) (bytes : List ℕ) → p b ≡ true → 0 < prefix_len p (b ∷ bytes)
some_run p b bytes h = let one : prefix_len p (b ∷ bytes) ≡ 1 + prefix_len p bytes = ap (λ c. cond c (1 + prefix_len p bytes) 0) h in omega (arith, one)

ors : (p q r s : Bool) → ((p || q) || s) ≡ true → (((r || p) || q) || s) ≡ true
ors true q true s h = refl
ors true q false s h = refl
ors false true true s h = refl
ors false true false s h = refl
ors false false true s h = refl
ors false false false s h = h

pub goes_on : (b : ℕ) → starts_name b ≡ true → goes_on_name b ≡ true
goes_on b h = ors (is_in_range 65 90 b) (is_in_range 97 122 b) (is_in_range 48 57 b) (b == 95) h

word_fits : (b : ℕ) (bytes : List ℕ) (k : Kind) → starts_name b ≡ true → Fits (length (b ∷ bytes)) (Token (Plain k), prefix_len goes_on_name (b ∷ bytes))
word_fits b bytes k h = accepted _ _ _ (some_run goes_on_name b bytes (goes_on b h)) (prefix_len-le-length goes_on_name (b ∷ bytes))

-- a number whose digits stand behind so many bytes
behind_fits : (radix prefix : ℕ) (bs : List ℕ) → prefix ≤ length bs → 0 < prefix + prefix_len (λ c. is_digit c radix) (drop prefix bs)
    → Fits (length bs) (Number (number_behind radix prefix bs).0, (number_behind radix prefix bs).1)
unfolding number_behind
behind_fits radix prefix bs within some = at (begins is_suffix (drop len behind)) refl where
  behind : List ℕ
  behind = drop prefix bs

  len : ℕ
  len = prefix_len (λ c. is_digit c radix) (drop prefix bs)

  at : (t : Bool) → begins is_suffix (drop len behind) ≡ t → Fits (length bs) (
    Number (cond {A = RawKind × ℕ} t (number_kind (value_of radix (take len behind)) true, prefix + len + 1) (number_kind (value_of radix (take len behind)) false, prefix + len)).0,
    (cond {A = RawKind × ℕ} t (number_kind (value_of radix (take len behind)) true, prefix + len + 1) (number_kind (value_of radix (take len behind)) false, prefix + len)).1,
  )
  at true h = accepted _ _ _ (omega arith) (omega (arith, begins_some is_suffix (drop len behind) h, length-drop len behind, length-drop prefix bs, within))
  at false h = accepted _ _ _ some (omega (arith, prefix_len-le-length (λ c. is_digit c radix) (drop prefix bs), length-drop prefix bs, within))

decimal : (b : ℕ) → is_ascii_digit b ≡ true → is_digit b 10 ≡ true
decimal b h = grind (arith, nat_tests)

-- a digit is one of its radix, octal behind a leading 0
plain_digit : (b : ℕ) → is_ascii_digit b ≡ true → is_digit b (cond (b == 48) 8 10) ≡ true
plain_digit b d = at (b == 48) refl where
  at : (t : Bool) → (b == 48) ≡ t → is_digit b (cond t 8 10) ≡ true
  at true e = ap (λ c. is_digit c 8) (is_equal b 48 e)
  at false e = decimal b d

second : (x y : Bool) → (x && y) ≡ true → y ≡ true
second true y e = e
second false y e = absurd (cc (e))

-- a hex digit behind `0x`
hex_digit : (bs : List ℕ) → is_hex bs ≡ true → begins (λ c. is_digit c 16) (drop 2 bs) ≡ true
unfolding is_hex
hex_digit bs h = second (starts_with nat_eq bs (codes "0x")) _ h

-- a digit at least stands behind the prefix
pub number_run : (b : ℕ) (bytes : List ℕ) → is_ascii_digit b ≡ true → 0 < prefix_len (λ c. is_digit c (radix_of (b ∷ bytes))) (drop (prefix_of (b ∷ bytes)) (b ∷ bytes))
unfolding prefix_of radix_of
number_run b bytes d = at (is_hex (b ∷ bytes)) refl where
  some : (p : ℕ → Bool) (bs : List ℕ) → begins p bs ≡ true → 0 < prefix_len p bs
  some p [] h = absurd (cc (h))
  some p (c ∷ cs) h = some_run p c cs h

  at : (t : Bool) → is_hex (b ∷ bytes) ≡ t → 0 < prefix_len (λ c. is_digit c (cond (is_hex (b ∷ bytes)) 16 (cond (b == 48) 8 10))) (drop (cond (is_hex (b ∷ bytes)) 2 0) (b ∷ bytes))
  at true h = subst (λ t. 0 < prefix_len (λ c. is_digit c (cond t 16 (cond (b == 48) 8 10))) (drop (cond t 2 0) (b ∷ bytes))) (sym h) (some (λ c. is_digit c 16) (drop 2 (b ∷ bytes)) (hex_digit (b ∷ bytes) h))
  at false h = subst (λ t. 0 < prefix_len (λ c. is_digit c (cond t 16 (cond (b == 48) 8 10))) (drop (cond t 2 0) (b ∷ bytes))) (sym h) (some_run (λ c. is_digit c (cond (b == 48) 8 10)) b bytes (plain_digit b d))

-- the prefix stands within the text
prefix_within : (bs : List ℕ) → prefix_of bs ≤ length bs
unfolding prefix_of
prefix_within bs = at (is_hex bs) refl where
  at : (t : Bool) → is_hex bs ≡ t → cond t 2 0 ≤ length bs
  at true h = omega (arith, begins_some (λ c. is_digit c 16) (drop 2 bs) (hex_digit bs h), length-drop 2 bs)
  at false h = omega arith

number_fits : (b : ℕ) (bytes : List ℕ) → is_ascii_digit b ≡ true → Fits (length (b ∷ bytes)) (number_front (b ∷ bytes))
unfolding number_at
number_fits b bytes d = behind_fits (radix_of (b ∷ bytes)) (prefix_of (b ∷ bytes)) (b ∷ bytes) (prefix_within (b ∷ bytes)) (omega (arith, number_run b bytes d))

-- a string is closed within what is left
closing_within : (escaped : Bool) (bytes : List ℕ) (n : ℕ) → closing escaped bytes ≡ Some n → n < length bytes
closing_within escaped [] n h = absurd (cc (h))
closing_within escaped (b ∷ bytes) n h = at (b == line_feed) (not escaped && b == quote) (closing (not escaped && b == backslash) bytes) (λ m e. closing_within (not escaped && b == backslash) bytes m e) h where
  at : (x y : Bool) (o : Option ℕ) → ((m : ℕ) → o ≡ Some m → m < length bytes) → cond x None (cond y (Some 0) (further 1 o)) ≡ Some n → n < suc (length bytes)
  at true y o ih e = absurd (cc (e))
  at false true o ih e = let none : 0 ≡ n = cc (e) in omega (arith, none)
  at false false (Some m) ih e = let one : 1 + m ≡ n = cc (e) in omega (arith, one, ih m refl)
  at false false None ih e = absurd (cc (e))

string_fits : (bytes : List ℕ) → Fits (suc (length bytes)) (string_front bytes)
unfolding string_front
string_fits bytes = at (closing false bytes) (closing_within false bytes) where
  one : (n : ℕ) → n < length bytes → (read : Result (List ℕ) ℕ) → Fits (suc (length bytes)) (string_lexeme n read)
  one n h (Ok text) = accepted _ _ _ (omega arith) (omega (arith, h))
  one n h (Err k) = refused _ _ _ refl

  at : (o : Option ℕ) → ((n : ℕ) → o ≡ Some n → n < length bytes) → Fits (suc (length bytes)) (option_map_or (λ n. string_lexeme n (unescaped n 0 (take n bytes))) o (Unclosed, 1))
  at (Some n) h = one n (h n refl) (unescaped n 0 (take n bytes))
  at None h = refused _ _ _ refl

constant_fits : (bytes : List ℕ) → Fits (suc (length bytes)) (constant_front bytes)
unfolding constant_front
constant_fits bytes = fits_if _ (begins (λ b. not (b == apostrophe || b == line_feed)) bytes) _ (Unclosed, 1) (λ _. at (character_at bytes)) (λ _. refused _ _ _ refl) where
  one : (c n : ℕ) → Fits (suc (length bytes)) (constant_lexeme c n bytes)
  one c n = fits_if _ (begins (λ b. b == apostrophe) (drop n bytes)) (Token (Plain (kind.Number c false)), n + 2) (Unclosed, 1) (λ e. accepted _ (n + 2) _ (omega arith) (omega (arith, begins_some (λ b. b == apostrophe) (drop n bytes) e, length-drop n bytes))) (λ _. refused _ _ _ refl)

  at : (o : Option (ℕ × ℕ)) → Fits (suc (length bytes)) (option_map_or (λ c. constant_lexeme c.0 c.1 bytes) o (BadChar, 1))
  at (Some c) = one c.0 c.1
  at None = refused _ _ _ refl

-- a comment ends within what is left
comment_within : (after_star : Bool) (bytes : List ℕ) (n : ℕ) → comment_end after_star bytes ≡ Some n → (0 < n) × (n ≤ length bytes)
comment_within after_star [] n h = absurd (cc (h))
comment_within after_star (b ∷ bytes) n h = at (after_star && b == slash) (comment_end (b == star) bytes) (λ m e. comment_within (b == star) bytes m e) h where
  at : (x : Bool) (o : Option ℕ) → ((m : ℕ) → o ≡ Some m → (0 < m) × (m ≤ length bytes)) → cond x (Some 1) (further 1 o) ≡ Some n → (0 < n) × (n ≤ suc (length bytes))
  at true o ih e = let one : 1 ≡ n = cc (e) in (omega (arith, one), omega (arith, one))
  at false (Some m) ih e = let one : 1 + m ≡ n = cc (e) in (omega (arith, one), omega (arith, one, (ih m refl).1))
  at false None ih e = absurd (cc (e))

mark_fits : (b : ℕ) (bytes : List ℕ) → Fits (length (b ∷ bytes)) (mark_front (b ∷ bytes))
unfolding mark_front mark_at
mark_fits b bytes = at (mark_of (take 3 (b ∷ bytes))) (mark_of (take 2 (b ∷ bytes))) (mark_of (take 1 (b ∷ bytes))) where
  some : (j : ℕ) (m : Mark) → 0 < j → Fits (length (b ∷ bytes)) (Token (Plain (kind.Mark m)), length (take j (b ∷ bytes)))
  some j m h = accepted _ _ _ (omega (arith, length-take j (b ∷ bytes), h)) (omega (arith, length-take j (b ∷ bytes)))

  at : (o3 o2 o1 : Option Mark) → Fits (length (b ∷ bytes)) (option_map_or {T = Kind × ℕ} (λ m. (Token (Plain m.0), m.1)) (option_map_or (λ m. Some (kind.Mark m, length (take 3 (b ∷ bytes)))) o3 (option_map_or (λ m. Some (kind.Mark m, length (take 2 (b ∷ bytes)))) o2 (option_map_or (λ m. Some (kind.Mark m, length (take 1 (b ∷ bytes)))) o1 None))) (BadChar, 0))
  at (Some m) o2 o1 = some 3 m (omega arith)
  at None (Some m) o1 = some 2 m (omega arith)
  at None None (Some m) = some 1 m (omega arith)
  at None None None = refused _ _ _ refl

slash_fits : (bytes : List ℕ) → Fits (suc (length bytes)) (slash_front (slash ∷ bytes))
unfolding slash_front
slash_fits bytes =
    fits_if (suc (length bytes)) (starts_with nat_eq (slash ∷ bytes) (codes "//")) (Comment, prefix_len (λ b. not (b == line_feed)) (slash ∷ bytes)) (cond (starts_with nat_eq (slash ∷ bytes) (codes "/*")) (option_map_or (λ n. (Comment, n + 2)) (comment_end false (drop 2 (slash ∷ bytes))) (Unclosed, 1)) (mark_front (slash ∷ bytes)))
    (λ _. accepted _ _ _ (some_run (λ b. not (b == line_feed)) slash bytes refl) (prefix_len-le-length (λ b. not (b == line_feed)) (slash ∷ bytes)))
    (λ _. fits_if (suc (length bytes)) (starts_with nat_eq (slash ∷ bytes) (codes "/*")) (option_map_or (λ n. (Comment, n + 2)) (comment_end false (drop 2 (slash ∷ bytes))) (Unclosed, 1)) (mark_front (slash ∷ bytes)) (λ _. at (comment_end false (drop 2 (slash ∷ bytes))) (comment_within false (drop 2 (slash ∷ bytes)))) (λ _. mark_fits slash bytes)) where
      at : (o : Option ℕ) → ((n : ℕ) → o ≡ Some n → (0 < n) × (n ≤ length (drop 2 (slash ∷ bytes)))) → Fits (suc (length bytes)) (option_map_or (λ n. (Comment, n + 2)) o (Unclosed, 1))
      at (Some n) h = accepted _ _ _ (omega arith) (omega (arith, (h n refl).0, (h n refl).1, length-drop 2 (slash ∷ bytes)))
      at None h = refused _ _ _ refl

pub front_fits : (b : ℕ) (bytes : List ℕ) → Fits (length (b ∷ bytes)) (front (b ∷ bytes))
unfolding front
front_fits b bytes =
    fits_if _ (is_blank b) _ _ (λ _. accepted _ _ _ (omega arith) (omega arith))
    (λ _. fits_if _ (b == line_feed) _ _ (λ _. accepted _ _ _ (omega arith) (omega arith))
    (λ _. fits_if _ (is_feed b) _ _ (λ _. accepted _ _ _ (omega arith) (omega arith))
    (λ _. fits_if _ (starts_name b) _ _ (λ h. word_fits b bytes _ h)
    (λ _. fits_if _ (is_ascii_digit b) _ _ (λ h. number_fits b bytes h)
    (λ _. fits_if _ (b == quote) _ _ (λ _. string_fits bytes)
    (λ _. fits_if _ (b == apostrophe) _ _ (λ _. constant_fits bytes)
    (λ _. fits_if _ (b == number_sign) _ _ (λ _. accepted _ _ _ (omega arith) (omega arith))
    (λ _. fits_if _ (b == slash) _ _ (λ h. subst (λ c. Fits (suc (length bytes)) (slash_front (c ∷ bytes))) (sym (is_equal b slash h)) (slash_fits bytes))
    (λ _. mark_fits b bytes)))))))))
