-- The bytes of EIR text, and the runs of them at the front of a line.
use Rattle.std.specs.Prelude.{ℕ, Bool, false, not, ◌&&◌, ◌||◌, ◌==◌, nat_le, List, [], ◌∷◌, drop, Option, Some, None, if◌then◌else◌}
use Rattle.std.specs.List.{take_while, prefix_len}
use Rattle.std.specs.Char.{is_ascii_digit, is_ascii_alphabetic, is_ascii_alphanumeric}

-- first this, and then what is made of it
infixl 10 ◌>>=◌
abbrev pub ◌>>=◌ : {A B : Type 0} → Option A → (A → Option B) → Option B
None >>= f = None
(Some x) >>= f = f x

abbrev pub quote : ℕ
quote = 34

abbrev pub number_sign : ℕ
number_sign = 35

abbrev pub apostrophe : ℕ
apostrophe = 39

abbrev pub plus : ℕ
plus = 43

abbrev pub comma : ℕ
comma = 44

abbrev pub minus : ℕ
minus = 45

abbrev pub colon : ℕ
colon = 58

abbrev pub backslash : ℕ
backslash = 92

-- space, tab and carriage return
abbrev pub is_blank : ℕ → Bool
is_blank b = b == 32 || b == 9 || b == 13

-- a letter, `_` or `.`
abbrev pub starts_name : ℕ → Bool
starts_name b = is_ascii_alphabetic b || b == 95 || b == 46

-- a letter, a digit, `_`, `.` or `$`
abbrev pub goes_on_name : ℕ → Bool
goes_on_name b = is_ascii_alphanumeric b || b == 95 || b == 46 || b == 36

abbrev pub is_octal_digit : ℕ → Bool
is_octal_digit b = nat_le 48 b && nat_le b 55

-- the first byte passes a test
abbrev pub begins : (ℕ → Bool) → List ℕ → Bool
begins p [] = false
begins p (b ∷ bytes) = p b

-- what stands from the first byte on that fails a test
abbrev pub drop_while : (ℕ → Bool) → List ℕ → List ℕ
drop_while p bytes = drop (prefix_len p bytes) bytes

-- past the blanks
abbrev pub past_blanks : List ℕ → List ℕ
past_blanks bytes = drop_while is_blank bytes

-- nothing more is said: the line's end, or a comment
abbrev pub ends : List ℕ → Bool
ends bytes = not (begins (λ b. not (b == number_sign)) (past_blanks bytes))

-- past one blank or more
abbrev pub past_gap : List ℕ → Option (List ℕ)
past_gap bytes = if begins is_blank bytes then Some (past_blanks bytes) else None

-- past this byte
abbrev pub past : ℕ → List ℕ → Option (List ℕ)
past c [] = None
past c (b ∷ bytes) = if b == c then Some bytes else None

-- past a comma and the blanks around it
abbrev pub past_comma : List ℕ → Option (List ℕ)
past_comma bytes = do
  rest ← past comma (past_blanks bytes)
  Some (past_blanks rest)

-- the name at the front, and what follows it
abbrev pub name_at : List ℕ → Option (List ℕ × List ℕ)
name_at bytes = if begins starts_name bytes then Some (take_while goes_on_name bytes, drop_while goes_on_name bytes) else None

-- the digits at the front, one at least, and what follows them
abbrev pub digits_at : List ℕ → Option (List ℕ × List ℕ)
digits_at bytes = if begins is_ascii_digit bytes then Some (take_while is_ascii_digit bytes, drop_while is_ascii_digit bytes) else None
