-- The tokens of a text: a line that includes a header stands for the header's tokens, `NULL` and `EOF` are replaced, and neighbouring strings join.
use Rattle.std.specs.Prelude.{◌≡◌, ℕ, Bool, true, false, not, ◌&&◌, List, [], ◌∷◌, ◌++◌, Option, Some, None, Result, Ok, Err, slice_get, fold, if◌then◌else◌, codes}
use Rattle.std.specs.Str.{bytes_eq}
use Rattle.std.specs.Option.{option_map_or}
use Rattle.c_syntax.specs.declared.token.Kind.{Kind}
use Rattle.c_syntax.specs.declared.token.Kind.TheVariants as kind
use Rattle.c_syntax.specs.declared.token.Mark.{Mark}
use Rattle.c_syntax.specs.declared.token.Mark.TheVariants.{Less, Dot, Greater}
use Rattle.c_syntax.specs.declared.token.RawKind.TheVariants.{Plain, Hash, Wide}
use Rattle.c_syntax.specs.declared.token.Token.{Token}
use Rattle.c_syntax.specs.declared.token.LexFault.{LexFault}
use Rattle.c_syntax.specs.declared.token.LexFault.TheVariants as fault
use Rattle.c_syntax.specs.declared.header.Header.{Header}
use Rattle.c_syntax.specs.declared.header.Header.TheVariants.{Stdio, Stdlib, String}
use Rattle.c_syntax.specs.declared.header.Included.{Included}
use Rattle.c_syntax.specs.declared.scan.Found.{Found}
use Rattle.c_syntax.specs.declared.scan.Found.TheVariants as found
use Rattle.c_syntax.specs.declared.scan.Gap.{Gap}
use Rattle.c_syntax.specs.declared.scan.Piece.{Piece}
use Rattle.c_syntax.specs.Header.{header_named, header_tokens}
use Rattle.c_syntax.specs.Scan.{pieces, Fails}

-- `NULL` is the null pointer constant, and `EOF` the int -1
abbrev pub named_constant : Kind → Kind
named_constant (kind.Name word) = if bytes_eq word (codes "NULL") then kind.Null else if bytes_eq word (codes "EOF") then kind.Number 16777215 false else kind.Name word
named_constant k = k

abbrev pub joined_kinds : Kind → Kind → Token → Token → List Token
joined_kinds (kind.Str a) (kind.Str b) x y = record { kind = kind.Str (a ++ b); pos = x.pos } ∷ []
joined_kinds j k x y = x ∷ y ∷ []

-- a token and the one behind it: two strings are one, at the place of the first
abbrev pub joined : Token → Token → List Token
joined x y = joined_kinds x.kind y.kind x y

-- a token behind others
abbrev pub added : List Token → Token → List Token
added [] t = t ∷ []
added (x ∷ []) t = joined x t
added (x ∷ y ∷ ts) t = x ∷ added (y ∷ ts) t

-- the same, `NULL` and `EOF` being replaced
abbrev pub put : List Token → Token → List Token
put ts t = added ts (record { kind = named_constant t.kind; pos = t.pos })

-- tokens with `NULL` and `EOF` replaced and neighbouring strings joined
abbrev pub finished : List Token → List Token
finished ts = fold put [] ts

-- on the line of the token before, behind blanks and comments
abbrev pub on_line : Gap → Bool
on_line gap = not gap.first && not gap.feed

-- the first of a line, with nothing but blanks and comments before the line feed
abbrev pub begins_line : Gap → Bool
begins_line gap = gap.first && not gap.feed

abbrev pub is_name : List ℕ → Found → Bool
is_name word (found.Token (Plain (kind.Name name))) = bytes_eq name word
is_name word _ = false

abbrev pub mark_in : Found → Option Mark
mark_in (found.Token (Plain (kind.Mark m))) = Some m
mark_in _ = None

abbrev pub is_less : Option Mark → Bool
is_less (Some Less) = true
is_less _ = false

abbrev pub is_dot : Option Mark → Bool
is_dot (Some Dot) = true
is_dot _ = false

abbrev pub is_greater : Option Mark → Bool
is_greater (Some Greater) = true
is_greater _ = false

-- the header that a name names
abbrev pub header_in : Found → Option Header
header_in (found.Token (Plain (kind.Name name))) = header_named name
header_in _ = None

-- the piece at an index passes a test
abbrev pub passes : (Piece → Bool) → ℕ → List Piece → Bool
passes test k ps = option_map_or test (slice_get ps k) false

-- `include`, `<`, and what follows that at once
unfoldable pub begins_include : List Piece → Bool
begins_include ps =
    passes (λ p. is_name (codes "include") p.found && on_line p.gap) 0 ps
    && passes (λ p. is_less (mark_in p.found) && on_line p.gap) 1 ps
    && passes (λ p. p.gap.close) 2 ps

-- `.h>` behind a header's name, without blanks, and the line's end
unfoldable pub ends_include : List Piece → Bool
ends_include ps =
    passes (λ p. is_dot (mark_in p.found) && p.gap.close) 3 ps
    && passes (λ p. is_name (codes "h") p.found && p.gap.close) 4 ps
    && passes (λ p. is_greater (mark_in p.found) && p.gap.close) 5 ps
    && passes (λ p. begins_line p.gap) 6 ps

-- the header that a line includes, by what stands behind its `#`: `include`, the header between `<` and `>`, and the line's end
unfoldable pub header_at : List Piece → Option Header
header_at ps = if begins_include ps && ends_include ps then option_map_or (λ p. header_in p.found) (slice_get ps 2) None else None

abbrev pub has : Included → Header → Bool
has included Stdio = included.stdio
has included Stdlib = included.stdlib
has included String = included.string

abbrev pub with_header : Included → Header → Included
with_header included Stdio = record included { stdio = true }
with_header included Stdlib = record included { stdlib = true }
with_header included String = record included { string = true }

-- what a piece stands for: tokens, whether it begins a line that stands for no more, and the headers that were included so far
pub record Step : Type 0 where
  pub tokens : List Token
  pub inside : Bool
  pub included : Included

-- only the first line that includes a header stands for its tokens
abbrev pub included_at : Included → Header → ℕ → Step
included_at included header pos = record { tokens = if has included header then [] else header_tokens header pos; inside = true; included = with_header included header }

-- a `#` is the first of a line that includes a header
abbrev pub directive : Included → Bool → Option Header → ℕ → Result Step LexFault
directive included true (Some header) pos = Ok (included_at included header pos)
directive included true None pos = Err (fault.BadChar pos)
directive included false header pos = Err (fault.BadChar pos)

abbrev pub step : Included → Found → ℕ → Gap → List Piece → Result Step LexFault
step included (found.Token (Plain k)) pos gap ps = Ok (record { tokens = record { kind = k; pos = pos } ∷ []; inside = false; included = included })
step included (found.Token Wide) pos gap ps = Err (fault.NumberRange pos)
step included (found.Token Hash) pos gap ps = directive included gap.first (header_at ps) pos
step included found.BadChar pos gap ps = Err (fault.BadChar pos)
step included found.Unclosed pos gap ps = Err (fault.Unclosed pos)

-- these tokens, and what is then read
abbrev pub put_all : List Token → Result (List Token) LexFault → Result (List Token) LexFault
put_all ts (Ok more) = Ok (ts ++ more)
put_all ts (Err e) = Err e

abbrev pub and_then : Result Step LexFault → (Step → Result (List Token) LexFault) → Result (List Token) LexFault
and_then (Ok s) f = f s
and_then (Err e) f = Err e

-- the tokens of pieces, or what is refused first; the pieces of a line that includes a header stand for nothing beside its `#`
abbrev pub tokens_in : Included → Bool → List Piece → Result (List Token) LexFault
tokens_in included inside [] = Ok []
tokens_in included inside (p ∷ ps) =
    if inside && not p.gap.first then tokens_in included true ps
    else and_then (step included p.found p.pos p.gap ps) (λ s. put_all s.tokens (tokens_in s.included s.inside ps))

abbrev pub none_included : Included
none_included = record { stdio = false; stdlib = false; string = false }

abbrev pub finish : List Token → Result (List Token) LexFault → Result (List Token) LexFault
finish before (Ok ts) = Ok (fold put before ts)
finish before (Err e) = Err e

-- the tokens of a text, or its lowest refusal
unfoldable pub lex_tokens : List ℕ → Result (List Token) LexFault
lex_tokens text = finish [] (tokens_in none_included false (pieces text))

-- what was read of a piece, and the tokens before and after, are what it stands for
abbrev pub Reads : Result (Included × Bool) LexFault → Result Step LexFault → List Token → List Token → Type 0
Reads (Ok found) (Ok s) old new = (found ≡ (s.included, s.inside)) × (new ≡ fold put old s.tokens)
Reads (Ok found) (Err e) old new = ⊥
Reads (Err e) (Ok s) old new = Fails {Y = Step} e (Ok s)
Reads (Err e) (Err f) old new = Fails {Y = Step} e (Err f)
