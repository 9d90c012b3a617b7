-- The tokens of headers.
use Rattle.std.proofs.Common.{◌≡◌, ℕ, ◌^◌, List, [], ◌∷◌, ◌++◌, Bool, true, nat_lt, refl}
use Rattle.std.specs.Prelude.{◌&&◌}
use Rattle.std.proofs.lemmas.Bool.{and_parts, ltb-true}
use Rattle.c_syntax.specs.declared.token.Kind.{Kind}
use Rattle.c_syntax.specs.declared.token.Kind.TheVariants as kind
use Rattle.c_syntax.specs.declared.token.RawKind.TheVariants.{Plain, Hash, Wide}
use Rattle.c_syntax.specs.declared.token.Token.{Token}
use Rattle.c_syntax.specs.declared.header.Header.{Header}
use Rattle.c_syntax.specs.declared.header.Header.TheVariants.{Stdio, Stdlib, String}
use Rattle.c_syntax.specs.declared.scan.Found.{Found}
use Rattle.c_syntax.specs.declared.scan.Found.TheVariants as found
use Rattle.c_syntax.specs.declared.scan.Piece.{Piece}
use Rattle.c_syntax.specs.Header.{text_of, kind_at, token_at, tokens_at, header_tokens}
use Rattle.c_syntax.specs.Scan.{pieces}
use Rattle.c_valid.specs.Valid.{AreBytes}
use Rattle.c_spelled_programs.specs.Tokens.{KindIsOfText, AreOfText}
use Rattle.c_spelled_programs.proofs.Fronts.{FoundFits, PiecesFit, pieces_fit}

abbrev all_bytes : List ℕ → Bool
all_bytes [] = true
all_bytes (c ∷ cs) = nat_lt c (2 ^ 8) && all_bytes cs

are_bytes : (cs : List ℕ) → all_bytes cs ≡ true → AreBytes cs
are_bytes [] h = tt
are_bytes (c ∷ cs) h = let p = and_parts (nat_lt c (2 ^ 8)) (all_bytes cs) h in (ltb-true c (2 ^ 8) p.0, are_bytes cs p.1)

text_is : (header : Header) → AreBytes (text_of header)
unfolding text_of
text_is Stdio = tt
text_is Stdlib = are_bytes (text_of Stdlib) refl
text_is String = are_bytes (text_of String) refl

both_tokens : (xs ys : List Token) → AreOfText xs → AreOfText ys → AreOfText (xs ++ ys)
both_tokens [] ys g h = h
both_tokens (x ∷ xs) ys g h = (g.0, both_tokens xs ys g.1 h)

kind_fits : (k : Kind) (at : ℕ) → KindIsOfText k → AreOfText (kind_at k at)
kind_fits kind.End at h = tt
kind_fits (kind.Name x) at h = (h, tt)
kind_fits (kind.Number v u) at h = (h, tt)
kind_fits (kind.Str x) at h = (h, tt)
kind_fits kind.Null at h = (h, tt)
kind_fits (kind.Key k) at h = (h, tt)
kind_fits (kind.Mark m) at h = (h, tt)

token_fits : (x : Found) (at : ℕ) → FoundFits x → AreOfText (token_at x at)
token_fits (found.Token (Plain k)) at h = kind_fits k at h
token_fits (found.Token Hash) at h = tt
token_fits (found.Token Wide) at h = tt
token_fits found.BadChar at h = tt
token_fits found.Unclosed at h = tt

tokens_fit : (at : ℕ) (ps : List Piece) → PiecesFit ps → AreOfText (tokens_at at ps)
tokens_fit at [] h = tt
tokens_fit at (p ∷ ps) h = both_tokens (token_at p.found at) (tokens_at at ps) (token_fits p.found at h.0) (tokens_fit at ps h.1)

pub headers_fit : (header : Header) (at : ℕ) → AreOfText (header_tokens header at)
unfolding header_tokens
headers_fit header at = tokens_fit at (pieces (text_of header)) (pieces_fit (text_of header) (text_is header))
