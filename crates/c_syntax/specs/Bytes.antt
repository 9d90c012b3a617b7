-- The bytes of C text, and the runs of them at the front of a text.
use Rattle.std.specs.Prelude.{ℕ, ◌+◌, ◌*◌, Bool, false, ◌||◌, ◌==◌, List, [], ◌∷◌}
use Rattle.std.specs.Char.{digit_value, is_ascii_alphabetic, is_ascii_alphanumeric}

abbrev pub line_feed : ℕ
line_feed = 10

abbrev pub quote : ℕ
quote = 34

abbrev pub number_sign : ℕ
number_sign = 35

abbrev pub apostrophe : ℕ
apostrophe = 39

abbrev pub star : ℕ
star = 42

abbrev pub slash : ℕ
slash = 47

abbrev pub backslash : ℕ
backslash = 92

-- space, tab and carriage return
abbrev pub is_blank : ℕ → Bool
is_blank b = b == 32 || b == 9 || b == 13

-- vertical tab and form feed
abbrev pub is_feed : ℕ → Bool
is_feed b = b == 11 || b == 12

-- a letter or `_`
abbrev pub starts_name : ℕ → Bool
starts_name b = is_ascii_alphabetic b || b == 95

-- a letter, a digit or `_`
abbrev pub goes_on_name : ℕ → Bool
goes_on_name b = is_ascii_alphanumeric b || b == 95

-- u or U, behind a number that is unsigned
abbrev pub is_suffix : ℕ → Bool
is_suffix b = b == 117 || b == 85

-- the first byte passes a test
abbrev pub begins : (ℕ → Bool) → List ℕ → Bool
begins p [] = false
begins p (b ∷ bytes) = p b

-- the number that digits write in a radix when they follow those of n
abbrev pub value_after : ℕ → ℕ → List ℕ → ℕ
value_after radix n [] = n
value_after radix n (b ∷ bytes) = value_after radix (n * radix + digit_value b) bytes

-- the number that digits write in a radix
abbrev pub value_of : ℕ → List ℕ → ℕ
value_of radix digits = value_after radix 0 digits
