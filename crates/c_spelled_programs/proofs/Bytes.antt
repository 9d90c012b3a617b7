-- Bytes, and the names and strings that are made of them.
use Rattle.std.proofs.Common.{◌≡◌, ℕ, zero, suc, ◌+◌, ◌^◌, ◌<◌, List, [], ◌∷◌, ◌++◌, take, drop, length, Some, None, Bool, true, false, nat_lt, refl, sym, subst, cond, arith}
use Rattle.std.specs.Prelude.{◌||◌, ◌==◌, not, Result, Ok, Err, if◌then◌else◌}
use Rattle.std.specs.List.{list_any, prefix_len, take_while}
use Rattle.std.specs.Map.{lookup}
use Rattle.std.specs.Char.{is_digit}
use Rattle.std.specs.Int.{is_in_range}
use Rattle.std.specs.Option.{option_map_or}
use Rattle.std.specs.declared.option.Option.{Option}
use Rattle.std.proofs.lemmas.Bool.{ltb-true}
use Rattle.c_syntax.specs.declared.token.Kind.TheVariants as kind
use Rattle.c_syntax.specs.declared.token.Key.{Key}
use Rattle.c_syntax.specs.Bytes.{backslash, goes_on_name, value_of}
use Rattle.c_syntax.specs.Front.{word_kind, escapes, escaped_of, byte_of, octal_at, hex_at, escape_at, character_at, put_before, unescaped}
use Rattle.c_syntax.specs.Words.{key_of}
use Rattle.c_valid.specs.Valid.{AreBytes}
use Rattle.c_helpers.specs.Laws.{is_strange}
use Rattle.c_fewer_types.specs.Standing.{IsTextName}
use Rattle.c_spelled_programs.specs.Tokens.{KindIsOfText}

pub both_bytes : (xs ys : List ℕ) → AreBytes xs → AreBytes ys → AreBytes (xs ++ ys)
both_bytes [] ys g h = h
both_bytes (x ∷ xs) ys g h = (g.0, both_bytes xs ys g.1 h)

pub bytes_taken : (n : ℕ) (xs : List ℕ) → AreBytes xs → AreBytes (take n xs)
bytes_taken zero xs h = tt
bytes_taken (suc n) [] h = tt
bytes_taken (suc n) (x ∷ xs) h = (h.0, bytes_taken n xs h.1)

pub bytes_dropped : (n : ℕ) (xs : List ℕ) → AreBytes xs → AreBytes (drop n xs)
bytes_dropped zero xs h = h
bytes_dropped (suc n) [] h = tt
bytes_dropped (suc n) (x ∷ xs) h = bytes_dropped n xs h.1

-- ---- names

not_strange : (c : ℕ) → goes_on_name c ≡ true → is_strange c ≡ false
not_strange c h = go (is_in_range 48 57 c) (is_in_range 65 90 c) (is_in_range 97 122 c) (c == 95) h
  where
    go : (d u l e : Bool) → (((d || u) || l) || e) ≡ true → not (e || d || u || l) ≡ false
    go true u l true h = refl
    go true u l false h = refl
    go false true l true h = refl
    go false true l false h = refl
    go false false true true h = refl
    go false false true false h = refl
    go false false false true h = refl
    go false false false false h = absurd (cc h)

pub name_of_text : (bytes : List ℕ) → IsTextName (take_while goes_on_name bytes)
name_of_text [] = refl
name_of_text (b ∷ bytes) = go (goes_on_name b) refl (name_of_text bytes)
  where
    go : (t : Bool) → goes_on_name b ≡ t → IsTextName (take_while goes_on_name bytes) → IsTextName (take (cond t (1 + prefix_len goes_on_name bytes) 0) (b ∷ bytes))
    go true e more =
        let len : ℕ = prefix_len goes_on_name bytes in
        let next : suc len ≡ 1 + len = omega arith in
        subst (λ n. IsTextName (take n (b ∷ bytes))) next (subst (λ z. (z || list_any is_strange (take_while goes_on_name bytes)) ≡ false) (sym (not_strange b e)) more)
    go false e more = refl

pub word_of_text : (word : List ℕ) → IsTextName word → KindIsOfText (word_kind word)
unfolding word_kind
word_of_text word h = go (key_of word)
  where
    go : (k : Option Key) → KindIsOfText (option_map_or kind.Key k (kind.Name word))
    go (Some k) = tt
    go None = h

-- ---- characters

abbrev IsByte : Option (ℕ × ℕ) → Type 0
IsByte None = Unit {0}
IsByte (Some c) = c.0 < 2 ^ 8

byte_fits : (radix : ℕ) (digits : List ℕ) (len : ℕ) → IsByte (byte_of radix digits len)
unfolding byte_of
byte_fits radix digits len = go (nat_lt (value_of radix digits) 256) refl
  where
    go : (b : Bool) → nat_lt (value_of radix digits) 256 ≡ b → IsByte (if b then Some (value_of radix digits, len) else None)
    go true e = ltb-true (value_of radix digits) 256 e
    go false e = tt

octal_fits : (bytes : List ℕ) → IsByte (octal_at bytes)
unfolding octal_at
octal_fits bytes = byte_fits 8 (take_while (λ b. is_digit b 8) (take 3 bytes)) (length (take_while (λ b. is_digit b 8) (take 3 bytes)))

hex_fits : (bytes : List ℕ) → IsByte (hex_at bytes)
unfolding hex_at
hex_fits bytes = go (take_while (λ b. is_digit b 16) bytes) (nat_lt 0 (length (take_while (λ b. is_digit b 16) bytes)))
  where
    go : (digits : List ℕ) (b : Bool) → IsByte (if b then byte_of 16 digits (1 + length digits) else None)
    go digits true = byte_fits 16 digits (1 + length digits)
    go digits false = tt

abbrev AllBytes : List (ℕ × ℕ) → Type 0
AllBytes [] = Unit {0}
AllBytes (e ∷ es) = (e.1 < 2 ^ 8) × AllBytes es

abbrev IsOneByte : Option ℕ → Type 0
IsOneByte None = Unit {0}
IsOneByte (Some c) = c < 2 ^ 8

lookup_fits : (b : ℕ) (es : List (ℕ × ℕ)) → AllBytes es → IsOneByte (lookup (λ mark. b == mark) es)
lookup_fits b [] h = tt
lookup_fits b (e ∷ es) h = go (b == e.0) (lookup_fits b es h.1)
  where
    go : (t : Bool) → IsOneByte (lookup (λ mark. b == mark) es) → IsOneByte (cond t (Some e.1) (lookup (λ mark. b == mark) es))
    go true more = h.0
    go false more = more

escaped_fits : (b : ℕ) → IsOneByte (escaped_of b)
unfolding escaped_of
escaped_fits b = lookup_fits b escapes (omega arith, (omega arith, (omega arith, (omega arith, (omega arith, (omega arith, (omega arith, (omega arith, (omega arith, (omega arith, (omega arith, tt)))))))))))

escape_fits : (bytes : List ℕ) → IsByte (escape_at bytes)
unfolding escape_at
escape_fits [] = tt
escape_fits (b ∷ bytes) = go (is_digit b 8) (b == 120)
  where
    named : (o : Option ℕ) → IsOneByte o → IsByte (option_map_or (λ c. Some (c, 1)) o None)
    named None h = tt
    named (Some c) h = h

    go : (d x : Bool) → IsByte (if d then octal_at (b ∷ bytes) else if x then hex_at bytes else option_map_or (λ c. Some (c, 1)) (escaped_of b) None)
    go true x = octal_fits (b ∷ bytes)
    go false true = hex_fits bytes
    go false false = named (escaped_of b) (escaped_fits b)

pub character_fits : (bytes : List ℕ) → AreBytes bytes → IsByte (character_at bytes)
unfolding character_at
character_fits [] h = tt
character_fits (b ∷ bytes) h = go (b == backslash)
  where
    further : (o : Option (ℕ × ℕ)) → IsByte o → IsByte (option_map_or (λ e. Some (e.0, 1 + e.1)) o None)
    further None h = tt
    further (Some c) h = h

    go : (t : Bool) → IsByte (if t then option_map_or (λ e. Some (e.0, 1 + e.1)) (escape_at bytes) None else Some (b, 1))
    go true = further (escape_at bytes) (escape_fits bytes)
    go false = h.0

-- ---- strings

abbrev pub TextFits : Result (List ℕ) ℕ → Type 0
TextFits (Ok text) = AreBytes text
TextFits (Err k) = Unit {0}

put_fits : (c : ℕ) (r : Result (List ℕ) ℕ) → c < 2 ^ 8 → TextFits r → TextFits (put_before c r)
put_fits c (Ok text) h more = (h, more)
put_fits c (Err k) h more = tt

pub unescaped_fits : (most at : ℕ) (bytes : List ℕ) → AreBytes bytes → TextFits (unescaped most at bytes)
unescaped_fits zero at bytes h = tt
unescaped_fits (suc most) at [] h = tt
unescaped_fits (suc most) at (b ∷ bytes) h = go (character_at (b ∷ bytes)) (character_fits (b ∷ bytes) h) (λ n. unescaped_fits most (at + n) (drop n (b ∷ bytes)) (bytes_dropped n (b ∷ bytes) h))
  where
    go : (o : Option (ℕ × ℕ)) → IsByte o → ((n : ℕ) → TextFits (unescaped most (at + n) (drop n (b ∷ bytes))))
        → TextFits (option_map_or (λ c. put_before c.0 (unescaped most (at + c.1) (drop c.1 (b ∷ bytes)))) o (Err at))
    go None f more = tt
    go (Some c) f more = put_fits c.0 (unescaped most (at + c.1) (drop c.1 (b ∷ bytes))) f (more c.1)
