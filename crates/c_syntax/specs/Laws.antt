-- What holds of the tokens of C.
use Rattle.std.specs.Prelude.{◌≡◌, ℕ, ◌+◌, ◌<◌, ◌≤◌, Bool, true, false, List, [], ◌∷◌, ◌++◌, length, take, Some, None, Ok, if◌then◌else◌}
use Rattle.std.specs.List.{list_all, flat_map}
use Rattle.std.specs.Char.{is_digit, is_ascii_digit}
use Rattle.c_syntax.specs.declared.token.Kind.TheVariants as kind
use Rattle.c_syntax.specs.declared.token.Mark.{Mark}
use Rattle.c_syntax.specs.declared.token.RawKind.{RawKind}
use Rattle.c_syntax.specs.declared.token.RawKind.TheVariants.{Plain}
use Rattle.c_syntax.specs.declared.token.Raw.{Raw}
use Rattle.c_syntax.specs.declared.front.Lexeme.{Lexeme}
use Rattle.c_syntax.specs.declared.front.Lexeme.TheVariants.{Blank, LineFeed, Feed, Comment, Token, Number, BadChar, Unclosed}
use Rattle.c_syntax.specs.declared.scan.Gap.{Gap}
use Rattle.c_syntax.specs.Bytes.{starts_name, goes_on_name, is_suffix, begins, value_of}
use Rattle.c_syntax.specs.Words.{mark_of}
use Rattle.c_syntax.specs.Front.{mark_at, word_kind, radix_of, prefix_of, number_kind, front}
use Rattle.c_syntax.specs.Scan.{at_start, behind_token, and_blank, and_line, and_feed, raw_tokens}

-- the mark at the front of a text is spelled there, and no longer front of the text is a mark
abbrev pub MarksAreLongest : Type 0
MarksAreLongest = (bytes : List ℕ) (m : Mark) (n : ℕ) → mark_at bytes ≡ Some (kind.Mark m, n)
    → (mark_of (take n bytes) ≡ Some m) × ((k : ℕ) → n < k → k ≤ length bytes → mark_of (take k bytes) ≡ None)

-- a name or a keyword is a letter or `_` with all the letters, digits and `_` that follow
abbrev pub WordsAreLongest : Type 0
WordsAreLongest = (b : ℕ) (bytes : List ℕ) → starts_name b ≡ true
    → (word : List ℕ) × (rest : List ℕ) × (b ∷ bytes ≡ word ++ rest) × (front (b ∷ bytes) ≡ (Token (Plain (word_kind word)), length word))
    × (list_all goes_on_name word ≡ true) × (begins goes_on_name rest ≡ false)

-- a number is all the digits in its radix that follow its prefix, one at least, and a suffix where one follows them
abbrev pub NumbersAreLongest : Type 0
NumbersAreLongest = (b : ℕ) (bytes : List ℕ) → is_ascii_digit b ≡ true
    → (digits : List ℕ) × (rest : List ℕ) × (b ∷ bytes ≡ take (prefix_of (b ∷ bytes)) (b ∷ bytes) ++ (digits ++ rest)) × (0 < length digits)
    × (list_all (λ c. is_digit c (radix_of (b ∷ bytes))) digits ≡ true) × (begins (λ c. is_digit c (radix_of (b ∷ bytes))) rest ≡ false)
    × (front (b ∷ bytes) ≡ (
      Number (number_kind (value_of (radix_of (b ∷ bytes)) digits) (begins is_suffix rest)),
      prefix_of (b ∷ bytes) + length digits + (if begins is_suffix rest then 1 else 0),
    ))

-- a part of a text, with its bytes
pub record Part : Type 0 where
  pub lexeme : Lexeme
  pub bytes : List ℕ

-- parts, one behind the other
abbrev pub join : List Part → List ℕ
join parts = flat_map (λ p. p.bytes) parts

-- a blank, a comment or a token
abbrev pub is_accepted : Lexeme → Bool
is_accepted BadChar = false
is_accepted Unclosed = false
is_accepted x = true

-- each part is the blank, comment or token that stands at the front of the text from it on, and takes some of it
abbrev pub AreParts : List Part → Type 0
AreParts [] = Unit {0}
AreParts (p ∷ parts) = (front (join (p ∷ parts)) ≡ (p.lexeme, length p.bytes)) × (0 < length p.bytes) × (is_accepted p.lexeme ≡ true) × AreParts parts

-- what stands behind a part, between the tokens around it
abbrev pub gap_behind : Lexeme → Gap → Gap
gap_behind Blank gap = and_blank gap
gap_behind Comment gap = and_blank gap
gap_behind LineFeed gap = and_line gap
gap_behind Feed gap = and_feed gap
gap_behind x gap = behind_token

abbrev pub raw : RawKind → ℕ → Gap → Raw
raw k at gap = record { kind = k; pos = at; first = gap.first; close = gap.close }

-- the token that a part is
abbrev pub token_at : Lexeme → ℕ → Gap → List Raw
token_at (Token k) at gap = raw k at gap ∷ []
token_at (Number k) at gap = raw k at gap ∷ []
token_at x at gap = []

-- the tokens of parts: the place of each is the number of bytes before it
abbrev pub tokens_of : ℕ → Gap → List Part → List Raw
tokens_of at gap [] = record { kind = Plain kind.End; pos = at; first = true; close = gap.close } ∷ []
tokens_of at gap (p ∷ parts) = token_at p.lexeme at gap ++ tokens_of (at + length p.bytes) (gap_behind p.lexeme gap) parts

-- a text that isn't refused is the join of blanks, comments and tokens, and these are its tokens
abbrev pub TextsAreTheirParts : Type 0
TextsAreTheirParts = (text : List ℕ) (raws : List Raw) → raw_tokens text ≡ Ok raws
    → (parts : List Part) × (join parts ≡ text) × AreParts parts × (tokens_of 0 at_start parts ≡ raws)
