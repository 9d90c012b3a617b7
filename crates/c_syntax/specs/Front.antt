-- What stands at the front of a text: a blank, a comment, or the longest token, with its length.
use Rattle.std.specs.Prelude.{ℕ, zero, suc, ◌+◌, ◌^◌, Bool, true, false, not, ◌&&◌, ◌||◌, ◌==◌, nat_lt, nat_eq, List, [], ◌∷◌, length, take, drop, Option, Some, None, Result, Ok, Err, if◌then◌else◌, codes}
use Rattle.std.specs.List.{take_while, prefix_len, starts_with}
use Rattle.std.specs.Map.{lookup}
use Rattle.std.specs.Option.{option_map_or}
use Rattle.std.specs.Char.{is_digit, is_ascii_digit}
use Rattle.c_syntax.specs.declared.token.Kind.{Kind}
use Rattle.c_syntax.specs.declared.token.Kind.TheVariants as kind
use Rattle.c_syntax.specs.declared.token.RawKind.{RawKind}
use Rattle.c_syntax.specs.declared.token.RawKind.TheVariants.{Plain, Hash, Wide}
use Rattle.c_syntax.specs.declared.front.Lexeme.{Lexeme}
use Rattle.c_syntax.specs.declared.front.Lexeme.TheVariants.{Blank, LineFeed, Feed, Comment, Token, Number, BadChar, Unclosed}
use Rattle.c_syntax.specs.Bytes.{line_feed, quote, number_sign, apostrophe, star, slash, backslash, is_blank, is_feed, starts_name, goes_on_name, is_suffix, begins, value_of}
use Rattle.c_syntax.specs.Words.{key_of, mark_of}

-- a name that is no keyword, or a keyword
unfoldable pub word_kind : List ℕ → Kind
word_kind word = option_map_or kind.Key (key_of word) (kind.Name word)

-- the longest mark at the front, of at most three bytes, with its length
unfoldable pub mark_at : List ℕ → Option (Kind × ℕ)
mark_at bytes =
    option_map_or (λ m. Some (kind.Mark m, length (take 3 bytes))) (mark_of (take 3 bytes))
    (option_map_or (λ m. Some (kind.Mark m, length (take 2 bytes))) (mark_of (take 2 bytes))
    (option_map_or (λ m. Some (kind.Mark m, length (take 1 bytes))) (mark_of (take 1 bytes)) None))

-- a mark, or a byte that starts no token
unfoldable pub mark_front : List ℕ → Lexeme × ℕ
mark_front bytes = option_map_or (λ m. (Token (Plain m.0), m.1)) (mark_at bytes) (BadChar, 0)

-- `0x` and a hex digit
unfoldable pub is_hex : List ℕ → Bool
is_hex bytes = starts_with nat_eq bytes (codes "0x") && begins (λ b. is_digit b 16) (drop 2 bytes)

-- hex behind `0x`, octal from a leading 0, else decimal
unfoldable pub radix_of : List ℕ → ℕ
radix_of bytes = if is_hex bytes then 16 else if begins (λ b. b == 48) bytes then 8 else 10

unfoldable pub prefix_of : List ℕ → ℕ
prefix_of bytes = if is_hex bytes then 2 else 0

-- a number with the suffix or above 2^23 - 1 is unsigned, one above 2^24 - 1 is none
unfoldable pub number_kind : ℕ → Bool → RawKind
number_kind value suffix = if nat_lt value (2 ^ 24) then Plain (kind.Number value (suffix || nat_lt 8388607 value)) else Wide

-- a number whose digits stand in a radix behind so many bytes, with its suffix
unfoldable pub number_behind : ℕ → ℕ → List ℕ → RawKind × ℕ
number_behind radix prefix bytes =
    let behind = drop prefix bytes in
    let len = prefix_len (λ b. is_digit b radix) behind in
    if begins is_suffix (drop len behind) then (number_kind (value_of radix (take len behind)) true, prefix + len + 1)
    else (number_kind (value_of radix (take len behind)) false, prefix + len)

-- the number at the front, its suffix included
unfoldable pub number_at : List ℕ → RawKind × ℕ
number_at bytes = number_behind (radix_of bytes) (prefix_of bytes) bytes

abbrev pub number_front : List ℕ → Lexeme × ℕ
number_front bytes = (Number (number_at bytes).0, (number_at bytes).1)

-- what a letter or a mark stands for behind a backslash
abbrev pub escapes : List (ℕ × ℕ)
escapes = (97, 7) ∷ (98, 8) ∷ (102, 12) ∷ (110, 10) ∷ (114, 13) ∷ (116, 9) ∷ (118, 11) ∷ (backslash, backslash) ∷ (apostrophe, apostrophe) ∷ (quote, quote) ∷ (63, 63) ∷ []

unfoldable pub escaped_of : ℕ → Option ℕ
escaped_of b = lookup (λ mark. b == mark) escapes

-- the byte that digits write, and how many bytes stand for it
unfoldable pub byte_of : ℕ → List ℕ → ℕ → Option (ℕ × ℕ)
byte_of radix digits len = if nat_lt (value_of radix digits) 256 then Some (value_of radix digits, len) else None

-- the longest run of at most three octal digits, of value at most 255
unfoldable pub octal_at : List ℕ → Option (ℕ × ℕ)
octal_at bytes =
    let digits = take_while (λ b. is_digit b 8) (take 3 bytes) in
    byte_of 8 digits (length digits)

-- all the hex digits that follow, one at least, of value at most 255
unfoldable pub hex_at : List ℕ → Option (ℕ × ℕ)
hex_at bytes =
    let digits = take_while (λ b. is_digit b 16) bytes in
    if nat_lt 0 (length digits) then byte_of 16 digits (1 + length digits) else None

-- the byte that an escape stands for, and its length, the backslash being passed
unfoldable pub escape_at : List ℕ → Option (ℕ × ℕ)
escape_at [] = None
escape_at (b ∷ bytes) =
    if is_digit b 8 then octal_at (b ∷ bytes)
    else if b == 120 then hex_at bytes
    else option_map_or (λ c. Some (c, 1)) (escaped_of b) None

-- a byte of a string or a constant, and how many bytes stand for it; nothing where a backslash starts no escape
unfoldable pub character_at : List ℕ → Option (ℕ × ℕ)
character_at [] = None
character_at (b ∷ bytes) = if b == backslash then option_map_or (λ e. Some (e.0, 1 + e.1)) (escape_at bytes) None else Some (b, 1)

-- that many more
abbrev pub further : ℕ → Option ℕ → Option ℕ
further n found = option_map_or (λ k. Some (n + k)) found None

-- how many bytes stand before the quote that closes a string on its line; behind a backslash a quote closes nothing
abbrev pub closing : Bool → List ℕ → Option ℕ
closing escaped [] = None
closing escaped (b ∷ bytes) =
    if b == line_feed then None
    else if not escaped && b == quote then Some 0
    else further 1 (closing (not escaped && b == backslash) bytes)

-- one byte more at the front
abbrev pub put_before : ℕ → Result (List ℕ) ℕ → Result (List ℕ) ℕ
put_before b (Ok text) = Ok (b ∷ text)
put_before b (Err k) = Err k

-- the bytes of a string that stands between its quotes, or the place of the first backslash that starts no escape
abbrev pub unescaped : ℕ → ℕ → List ℕ → Result (List ℕ) ℕ
unescaped zero at bytes = Ok []
unescaped (suc most) at [] = Ok []
unescaped (suc most) at (b ∷ bytes) =
    option_map_or (λ c. put_before c.0 (unescaped most (at + c.1) (drop c.1 (b ∷ bytes)))) (character_at (b ∷ bytes)) (Err at)

-- a string, its opening quote being passed
abbrev pub string_lexeme : ℕ → Result (List ℕ) ℕ → Lexeme × ℕ
string_lexeme n (Ok text) = (Token (Plain (kind.Str text)), n + 2)
string_lexeme n (Err k) = (BadChar, 1 + k)

unfoldable pub string_front : List ℕ → Lexeme × ℕ
string_front bytes = option_map_or (λ n. string_lexeme n (unescaped n 0 (take n bytes))) (closing false bytes) (Unclosed, 1)

-- a character constant, its opening apostrophe being passed
abbrev pub constant_lexeme : ℕ → ℕ → List ℕ → Lexeme × ℕ
constant_lexeme value n bytes = if begins (λ b. b == apostrophe) (drop n bytes) then (Token (Plain (kind.Number value false)), n + 2) else (Unclosed, 1)

unfoldable pub constant_front : List ℕ → Lexeme × ℕ
constant_front bytes =
    if begins (λ b. not (b == apostrophe || b == line_feed)) bytes
    then option_map_or (λ c. constant_lexeme c.0 c.1 bytes) (character_at bytes) (BadChar, 1)
    else (Unclosed, 1)

-- how many bytes go up to the end of a comment that stands on its own lines, its opening being passed
abbrev pub comment_end : Bool → List ℕ → Option ℕ
comment_end after_star [] = None
comment_end after_star (b ∷ bytes) = if after_star && b == slash then Some 1 else further 1 (comment_end (b == star) bytes)

-- a comment up to the line's end, one up to its mark, or an operator
unfoldable pub slash_front : List ℕ → Lexeme × ℕ
slash_front bytes =
    if starts_with nat_eq bytes (codes "//") then (Comment, prefix_len (λ b. not (b == line_feed)) bytes)
    else if starts_with nat_eq bytes (codes "/*") then option_map_or (λ n. (Comment, n + 2)) (comment_end false (drop 2 bytes)) (Unclosed, 1)
    else mark_front bytes

-- what stands at the front, with its length
unfoldable pub front : List ℕ → Lexeme × ℕ
front [] = (Token (Plain kind.End), 0)
front (b ∷ bytes) =
    if is_blank b then (Blank, 1)
    else if b == line_feed then (LineFeed, 1)
    else if is_feed b then (Feed, 1)
    else if starts_name b then (Token (Plain (word_kind (take_while goes_on_name (b ∷ bytes)))), prefix_len goes_on_name (b ∷ bytes))
    else if is_ascii_digit b then number_front (b ∷ bytes)
    else if b == quote then string_front bytes
    else if b == apostrophe then constant_front bytes
    else if b == number_sign then (Token Hash, 1)
    else if b == slash then slash_front (b ∷ bytes)
    else mark_front (b ∷ bytes)
