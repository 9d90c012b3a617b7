-- A text is the join of its parts.
use Rattle.std.proofs.Common.{◌≡◌, ℕ, zero, suc, ◌+◌, ◌<◌, ◌≤◌, Bool, true, false, List, [], ◌∷◌, ◌++◌, length, take, drop, Option, Some, None, refl, sym, ap, ◌∙◌, arith, length-take, length-drop}
use Rattle.std.proofs.lemmas.List.{take-append-drop}
use Rattle.std.specs.Prelude.{Result, Ok, Err, cond}
use Rattle.std.specs.Option.{option_map_or}
use Rattle.std.specs.Result.{result_unwrap_or}
use Rattle.c_syntax.specs.declared.token.RawKind.{RawKind}
use Rattle.c_syntax.specs.declared.token.Raw.{Raw}
use Rattle.c_syntax.specs.declared.token.LexFault.{LexFault}
use Rattle.c_syntax.specs.declared.front.Lexeme.{Lexeme}
use Rattle.c_syntax.specs.declared.front.Lexeme.TheVariants.{Blank, LineFeed, Feed, Comment, Token, Number, BadChar, Unclosed}
use Rattle.c_syntax.specs.declared.scan.Gap.{Gap}
use Rattle.c_syntax.specs.declared.scan.Piece.{Piece}
use Rattle.c_syntax.specs.Bytes.{goes_on_name, begins}
use Rattle.c_syntax.specs.Front.{front}
use Rattle.c_syntax.specs.declared.scan.Found.TheVariants as found
use Rattle.c_syntax.specs.Scan.{at_start, behind_token, and_blank, and_line, and_feed, piece, end_piece, pieces_of, scan, raws_in, put_raw, raw_tokens}
use Rattle.c_syntax.specs.Laws.{Part, join, is_accepted, AreParts, gap_behind, raw, token_at, tokens_of, TextsAreTheirParts}
use Rattle.c_syntax.proofs.Fronts.{Fits, front_fits}

-- the parts of what is left of a text from a place on
record HasParts (at : ℕ) (gap : Gap) (bytes : List ℕ) (raws : List Raw) : Type 0 where
  parts : List Part
  joined : join parts ≡ bytes
  fronts : AreParts parts
  tokens : tokens_of at gap parts ≡ raws

-- one part more
one_part : (at n : ℕ) (gap : Gap) (x : Lexeme) (bytes : List ℕ) (raws all : List Raw) → front bytes ≡ (x, n) → 0 < n → n ≤ length bytes → is_accepted x ≡ true
    → HasParts (at + n) (gap_behind x gap) (drop n bytes) raws → token_at x at gap ++ raws ≡ all → HasParts at gap bytes all
one_part at n gap x bytes raws all e some within ok found sum =
    let whole : take n bytes ++ join found.parts ≡ bytes = ap (λ z. take n bytes ++ z) found.joined ∙ take-append-drop n bytes in
    let len : length (take n bytes) ≡ n = omega (arith, length-take n bytes, within) in
    record {
      parts = record { lexeme = x; bytes = take n bytes } ∷ found.parts;
      joined = whole;
      fronts = (ap front whole ∙ e ∙ ap (λ (m : ℕ). (x, m)) (sym len), omega (arith, len, some), ok, found.fronts);
      tokens = ap (λ m. token_at x at gap ++ tokens_of (at + m) (gap_behind x gap) found.parts) len ∙ ap (λ z. token_at x at gap ++ z) found.tokens ∙ sum;
    }

-- the tokens behind the first
more : (r : Raw) (read : Result (List Raw) LexFault) (all : List Raw) → put_raw (Ok r) read ≡ Ok all → (rest : List Raw) × (read ≡ Ok rest) × (r ∷ rest ≡ all)
more r (Ok rest) all h = (rest, refl, ap (λ (o : Result (List Raw) LexFault). result_unwrap_or o []) h)
more r (Err e) all h = absurd (cc (h))

no_tokens : (e : LexFault) (all : List Raw) → Err e ≡ Ok all → ⊥
no_tokens e all h = cc (h)

-- what is read behind a part
abbrev Behind : ℕ → ℕ → ℕ → Gap → List ℕ → Type 0
Behind most at n gap bytes = (raws : List Raw) → raws_in (scan most (at + n) gap (drop n bytes)) ≡ Ok raws → HasParts (at + n) gap (drop n bytes) raws

by_token : (most at n : ℕ) (gap : Gap) (k : RawKind) (x : Lexeme) (bytes : List ℕ) (all : List Raw) → front bytes ≡ (x, n) → 0 < n → n ≤ length bytes → is_accepted x ≡ true
    → gap_behind x gap ≡ behind_token → token_at x at gap ≡ raw k at gap ∷ [] → ((g : Gap) → Behind most at n g bytes)
    → put_raw (Ok (raw k at gap)) (raws_in (scan most (at + n) behind_token (drop n bytes))) ≡ Ok all → HasParts at gap bytes all
by_token most at n gap k x bytes all e some within ok g t ih h =
    let m = more (raw k at gap) (raws_in (scan most (at + n) behind_token (drop n bytes))) all h in
    one_part at n gap x bytes m.0 all e some within ok (ih (gap_behind x gap) m.0 (ap (λ z. raws_in (scan most (at + n) z (drop n bytes))) g ∙ m.1)) (ap (λ z. z ++ m.0) t ∙ m.2)

by_part : (most at n : ℕ) (gap : Gap) (x : Lexeme) (bytes : List ℕ) (all : List Raw) → front bytes ≡ (x, n) → Fits (length bytes) (x, n) → (0 < n → (g : Gap) → Behind most at n g bytes)
    → raws_in ((pieces_of x at (at + n) gap (drop n bytes)).0 ++ option_map_or (λ g. scan most (at + n) g (drop n bytes)) (pieces_of x at (at + n) gap (drop n bytes)).1 []) ≡ Ok all
    → HasParts at gap bytes all
by_part most at n gap Blank bytes all e f ih h = one_part at n gap Blank bytes all all e (f.fits refl).0 (f.fits refl).1 refl (ih (f.fits refl).0 (and_blank gap) all h) refl
by_part most at n gap Comment bytes all e f ih h = one_part at n gap Comment bytes all all e (f.fits refl).0 (f.fits refl).1 refl (ih (f.fits refl).0 (and_blank gap) all h) refl
by_part most at n gap LineFeed bytes all e f ih h = one_part at n gap LineFeed bytes all all e (f.fits refl).0 (f.fits refl).1 refl (ih (f.fits refl).0 (and_line gap) all h) refl
by_part most at n gap Feed bytes all e f ih h = one_part at n gap Feed bytes all all e (f.fits refl).0 (f.fits refl).1 refl (ih (f.fits refl).0 (and_feed gap) all h) refl
by_part most at n gap (Token k) bytes all e f ih h = by_token most at n gap k (Token k) bytes all e (f.fits refl).0 (f.fits refl).1 refl refl refl (ih (f.fits refl).0) h
by_part most at n gap (Number k) bytes all e f ih h = by (begins goes_on_name (drop n bytes)) h where
  by : (t : Bool) → raws_in (piece (found.Token k) at gap ∷ (cond {A = List Piece × Option Gap} t (piece found.BadChar (at + n) behind_token ∷ [], None) ([], Some behind_token)).0 ++ option_map_or (λ g. scan most (at + n) g (drop n bytes)) (cond {A = List Piece × Option Gap} t (piece found.BadChar (at + n) behind_token ∷ [], None) ([], Some behind_token)).1 []) ≡ Ok all → HasParts at gap bytes all
  by true h = absurd (cc (h))
  by false h = by_token most at n gap k (Number k) bytes all e (f.fits refl).0 (f.fits refl).1 refl refl refl (ih (f.fits refl).0) h
by_part most at n gap BadChar bytes all e f ih h = absurd (cc (h))
by_part most at n gap Unclosed bytes all e f ih h = absurd (cc (h))

nothing : (at : ℕ) (gap : Gap) (raws : List Raw) → raws_in (end_piece at gap ∷ []) ≡ Ok raws → HasParts at gap [] raws
unfolding more
nothing at gap raws h = record { parts = []; joined = refl; fronts = tt; tokens = (more _ (Ok []) raws h).2 }

all_parts : (most at : ℕ) (gap : Gap) (bytes : List ℕ) (raws : List Raw) → length bytes ≤ most → raws_in (scan most at gap bytes) ≡ Ok raws → HasParts at gap bytes raws
unfolding scan
all_parts zero at gap [] raws le h = nothing at gap raws h
all_parts zero at gap (b ∷ bytes) raws le h = absurd (omega (arith, le))
all_parts (suc most) at gap [] raws le h = nothing at gap raws h
all_parts (suc most) at gap (b ∷ bytes) raws le h =
    by_part most at n gap (front (b ∷ bytes)).0 (b ∷ bytes) raws refl (front_fits b bytes) (λ some g raws' h'. all_parts most (at + n) g (drop n (b ∷ bytes)) raws' (omega (arith, some, le, length-drop n (b ∷ bytes))) h') h where
      n : ℕ
      n = (front (b ∷ bytes)).1

pub texts_are_their_parts : TextsAreTheirParts
unfolding raw_tokens
texts_are_their_parts = λ text raws h. let f = all_parts (length text) 0 at_start text raws (omega arith) h in (f.parts, f.joined, f.fronts, f.tokens)
