-- A text cut into its tokens, up to its end or to the first byte that is refused.
use Rattle.std.specs.Prelude.{◌≡◌, ℕ, zero, suc, ◌+◌, true, false, not, ◌||◌, List, [], ◌∷◌, ◌++◌, length, drop, Option, Some, None, Result, Ok, Err, if◌then◌else◌}
use Rattle.std.specs.Option.{option_map_or}
use Rattle.c_syntax.specs.declared.token.Kind.TheVariants as kind
use Rattle.c_syntax.specs.declared.token.RawKind.TheVariants.{Plain}
use Rattle.c_syntax.specs.declared.token.Raw.{Raw}
use Rattle.c_syntax.specs.declared.token.LexFault.{LexFault}
use Rattle.c_syntax.specs.declared.token.LexFault.TheVariants as fault
use Rattle.c_syntax.specs.declared.front.Lexeme.{Lexeme}
use Rattle.c_syntax.specs.declared.front.Lexeme.TheVariants.{Blank, LineFeed, Feed, Comment, Token, Number, BadChar, Unclosed}
use Rattle.c_syntax.specs.declared.scan.Found.{Found}
use Rattle.c_syntax.specs.declared.scan.Found.TheVariants as found
use Rattle.c_syntax.specs.declared.scan.Gap.{Gap}
use Rattle.c_syntax.specs.declared.scan.Piece.{Piece}
use Rattle.c_syntax.specs.Bytes.{goes_on_name, begins}
use Rattle.c_syntax.specs.Front.{front}

-- before a text's first token
abbrev pub at_start : Gap
at_start = record { first = true; close = false; feed = false }

-- right behind a token
abbrev pub behind_token : Gap
behind_token = record { first = false; close = true; feed = false }

-- and then a blank or a comment
abbrev pub and_blank : Gap → Gap
and_blank gap = record { first = gap.first; close = false; feed = gap.feed }

-- and then a line feed
abbrev pub and_line : Gap → Gap
and_line gap = record { first = true; close = false; feed = gap.feed }

-- and then a form feed or a vertical tab, which counts up to the line's end
abbrev pub and_feed : Gap → Gap
and_feed gap = record { first = gap.first; close = false; feed = gap.feed || not gap.first }

abbrev pub piece : Found → ℕ → Gap → Piece
piece what at gap = record { found = what; pos = at; gap = gap }

-- the end is the first of its line
abbrev pub end_piece : ℕ → Gap → Piece
end_piece at gap = piece (found.Token (Plain kind.End)) at (record { first = true; close = gap.close; feed = gap.feed })

-- a letter, a digit or `_` may not follow a number at once
abbrev pub junk_behind : ℕ → List ℕ → List Piece × Option Gap
junk_behind at rest = if begins goes_on_name rest then (piece found.BadChar at behind_token ∷ [], None) else ([], Some behind_token)

-- what one lexeme gives that stands from a place up to another, and what then stands before what follows it; nothing follows what is refused
abbrev pub pieces_of : Lexeme → ℕ → ℕ → Gap → List ℕ → List Piece × Option Gap
pieces_of Blank at behind gap rest = ([], Some (and_blank gap))
pieces_of Comment at behind gap rest = ([], Some (and_blank gap))
pieces_of LineFeed at behind gap rest = ([], Some (and_line gap))
pieces_of Feed at behind gap rest = ([], Some (and_feed gap))
pieces_of (Token k) at behind gap rest = (piece (found.Token k) at gap ∷ [], Some behind_token)
pieces_of (Number k) at behind gap rest = (piece (found.Token k) at gap ∷ (junk_behind behind rest).0, (junk_behind behind rest).1)
pieces_of BadChar at behind gap rest = (piece found.BadChar behind gap ∷ [], None)
pieces_of Unclosed at behind gap rest = (piece found.Unclosed at gap ∷ [], None)

-- the pieces of a text that begins at a place behind a gap; each but the end takes a byte at least, so there are at most so many
unfoldable pub scan : ℕ → ℕ → Gap → List ℕ → List Piece
scan zero at gap bytes = end_piece at gap ∷ []
scan (suc most) at gap [] = end_piece at gap ∷ []
scan (suc most) at gap (b ∷ bytes) =
    let here = front (b ∷ bytes) in
    let rest = drop here.1 (b ∷ bytes) in
    let got = pieces_of here.0 at (at + here.1) gap rest in
    got.0 ++ option_map_or (λ g. scan most (at + here.1) g rest) got.1 []

abbrev pub pieces : List ℕ → List Piece
pieces text = scan (length text) 0 at_start text

-- the tokens before directives are read, or what is refused
abbrev pub raw_of : Found → ℕ → Gap → Result Raw LexFault
raw_of (found.Token k) at gap = Ok (record { kind = k; pos = at; first = gap.first; close = gap.close })
raw_of found.BadChar at gap = Err (fault.BadChar at)
raw_of found.Unclosed at gap = Err (fault.Unclosed at)

abbrev pub put_raw : Result Raw LexFault → Result (List Raw) LexFault → Result (List Raw) LexFault
put_raw (Err e) more = Err e
put_raw (Ok raw) (Err e) = Err e
put_raw (Ok raw) (Ok raws) = Ok (raw ∷ raws)

abbrev pub raws_in : List Piece → Result (List Raw) LexFault
raws_in [] = Ok []
raws_in (p ∷ ps) = put_raw (raw_of p.found p.pos p.gap) (raws_in ps)

unfoldable pub raw_tokens : List ℕ → Result (List Raw) LexFault
raw_tokens text = raws_in (pieces text)

-- what was read is what a text has, unless memory ran out
abbrev pub Fails : {Y : Type 0} → LexFault → Result Y LexFault → Type 0
Fails fault.Memory read = Unit {0}
Fails e read = read ≡ Err e

abbrev pub Gives : {X Y : Type 0} → (X → Y) → Result X LexFault → Result Y LexFault → Type 0
Gives view (Ok x) read = read ≡ Ok (view x)
Gives view (Err e) read = Fails e read
