-- What stands at the front of a text of bytes, and all its pieces.
use Rattle.std.proofs.Common.{ℕ, zero, suc, ◌+◌, ◌^◌, List, [], ◌∷◌, ◌++◌, take, drop, length, Some, None, Bool, true, false, nat_lt, nat_eq}
use Rattle.std.specs.Prelude.{◌||◌, ◌==◌, not, Result, Ok, Err, if◌then◌else◌, codes}
use Rattle.std.specs.List.{take_while, prefix_len, starts_with}
use Rattle.std.specs.Char.{is_digit, is_ascii_digit}
use Rattle.std.specs.Option.{option_map_or}
use Rattle.std.specs.declared.option.Option.{Option}
use Rattle.c_syntax.specs.declared.token.Kind.{Kind}
use Rattle.c_syntax.specs.declared.token.Kind.TheVariants as kind
use Rattle.c_syntax.specs.declared.token.Mark.{Mark}
use Rattle.c_syntax.specs.declared.token.RawKind.{RawKind}
use Rattle.c_syntax.specs.declared.token.RawKind.TheVariants.{Plain, Hash, Wide}
use Rattle.c_syntax.specs.declared.token.Raw.{Raw}
use Rattle.c_syntax.specs.declared.token.LexFault.{LexFault}
use Rattle.c_syntax.specs.declared.front.Lexeme.{Lexeme}
use Rattle.c_syntax.specs.declared.front.Lexeme.TheVariants.{Blank, LineFeed, Feed, Comment, Token, Number, BadChar, Unclosed}
use Rattle.c_syntax.specs.declared.scan.Found.{Found}
use Rattle.c_syntax.specs.declared.scan.Found.TheVariants as found
use Rattle.c_syntax.specs.declared.scan.Gap.{Gap}
use Rattle.c_syntax.specs.declared.scan.Piece.{Piece}
use Rattle.c_syntax.specs.Bytes.{line_feed, quote, number_sign, apostrophe, slash, is_blank, is_feed, starts_name, goes_on_name, is_suffix, begins, value_of}
use Rattle.c_syntax.specs.Words.{mark_of}
use Rattle.c_syntax.specs.Front.{word_kind, mark_at, mark_front, radix_of, prefix_of, number_kind, number_behind, number_at, number_front, string_lexeme, string_front, closing, unescaped, constant_lexeme, constant_front, character_at, comment_end, slash_front, front}
use Rattle.c_syntax.specs.Scan.{junk_behind, pieces_of, at_start, behind_token, scan, pieces, raw_of, put_raw, raws_in, raw_tokens}
use Rattle.c_valid.specs.Valid.{AreBytes}
use Rattle.c_spelled_programs.specs.Tokens.{KindIsOfText}
use Rattle.c_spelled_programs.proofs.Bytes.{bytes_taken, bytes_dropped, name_of_text, word_of_text, TextFits, unescaped_fits}

abbrev pub RawIsOfText : RawKind → Type 0
RawIsOfText (Plain k) = KindIsOfText k
RawIsOfText k = Unit {0}

abbrev LexemeFits : Lexeme → Type 0
LexemeFits (Token k) = RawIsOfText k
LexemeFits (Number k) = RawIsOfText k
LexemeFits x = Unit {0}

abbrev Fits : Lexeme × ℕ → Type 0
Fits x = LexemeFits x.0

-- ---- what stands at the front

abbrev marked : List ℕ → ℕ → Mark → Option (Kind × ℕ)
marked bytes n m = Some (kind.Mark m, length (take n bytes))

mark_fits : (bytes : List ℕ) → Fits (mark_front bytes)
unfolding mark_front mark_at
mark_fits bytes = go (mark_of (take 3 bytes)) (mark_of (take 2 bytes)) (mark_of (take 1 bytes))
  where
    go : (a b c : Option Mark) → Fits (option_map_or (λ m. (Token (Plain m.0), m.1)) (option_map_or (marked bytes 3) a (option_map_or (marked bytes 2) b (option_map_or (marked bytes 1) c None))) (BadChar, 0))
    go (Some m) b c = tt
    go None (Some m) c = tt
    go None None (Some m) = tt
    go None None None = tt

number_is : (value : ℕ) (suffix : Bool) → RawIsOfText (number_kind value suffix)
unfolding number_kind
number_is value suffix = go (nat_lt value (2 ^ 24))
  where
    go : (b : Bool) → RawIsOfText (if b then Plain (kind.Number value (suffix || nat_lt 8388607 value)) else Wide)
    go true = tt
    go false = tt

-- with a suffix or without
abbrev with_suffix : (radix prefix : ℕ) → (behind : List ℕ) → (len : ℕ) → Bool → RawKind × ℕ
with_suffix radix prefix behind len b =
    if b then (number_kind (value_of radix (take len behind)) true, prefix + len + 1) else (number_kind (value_of radix (take len behind)) false, prefix + len)

suffix_fits : (radix prefix : ℕ) (behind : List ℕ) (len : ℕ) (b : Bool) → RawIsOfText (with_suffix radix prefix behind len b).0
suffix_fits radix prefix behind len true = number_is (value_of radix (take len behind)) true
suffix_fits radix prefix behind len false = number_is (value_of radix (take len behind)) false

number_fits : (radix prefix : ℕ) (bytes : List ℕ) → RawIsOfText (number_behind radix prefix bytes).0
unfolding number_behind
number_fits radix prefix bytes =
    let behind = drop prefix bytes in
    let len = prefix_len (λ b. is_digit b radix) behind in
    suffix_fits radix prefix behind len (begins is_suffix (drop len behind))

string_fits : (bytes : List ℕ) → AreBytes bytes → Fits (string_front bytes)
unfolding string_front
string_fits bytes h = go (closing false bytes)
  where
    told : (n : ℕ) (r : Result (List ℕ) ℕ) → TextFits r → Fits (string_lexeme n r)
    told n (Ok text) f = f
    told n (Err k) f = tt

    go : (o : Option ℕ) → Fits (option_map_or (λ n. string_lexeme n (unescaped n 0 (take n bytes))) o (Unclosed, 1))
    go None = tt
    go (Some n) = told n (unescaped n 0 (take n bytes)) (unescaped_fits n 0 (take n bytes) (bytes_taken n bytes h))

constant_fits : (bytes : List ℕ) → Fits (constant_front bytes)
unfolding constant_front
constant_fits bytes = go (begins (λ b. not (b == apostrophe || b == line_feed)) bytes) (character_at bytes)
  where
    closed : (value n : ℕ) (b : Bool) → Fits (if b then (Token (Plain (kind.Number value false)), n + 2) else (Unclosed, 1))
    closed value n true = tt
    closed value n false = tt

    go : (b : Bool) (o : Option (ℕ × ℕ)) → Fits (if b then option_map_or (λ c. constant_lexeme c.0 c.1 bytes) o (BadChar, 1) else (Unclosed, 1))
    go true None = tt
    go true (Some c) = closed c.0 c.1 (begins (λ b. b == apostrophe) (drop c.1 bytes))
    go false o = tt

slash_fits : (bytes : List ℕ) → Fits (slash_front bytes)
unfolding slash_front
slash_fits bytes = go (starts_with nat_eq bytes (codes "//")) (starts_with nat_eq bytes (codes "/*")) (comment_end false (drop 2 bytes))
  where
    go : (a b : Bool) (o : Option ℕ) → Fits (if a then (Comment, prefix_len (λ b. not (b == line_feed)) bytes) else if b then option_map_or (λ n. (Comment, n + 2)) o (Unclosed, 1) else mark_front bytes)
    go true b o = tt
    go false true None = tt
    go false true (Some n) = tt
    go false false o = mark_fits bytes

abbrev any_front : (b : ℕ) → (bytes : List ℕ) → (a c d e f g i j k : Bool) → Lexeme × ℕ
any_front b bytes a c d e f g i j k =
    if a then (Blank, 1)
    else if c then (LineFeed, 1)
    else if d then (Feed, 1)
    else if e then (Token (Plain (word_kind (take_while goes_on_name (b ∷ bytes)))), prefix_len goes_on_name (b ∷ bytes))
    else if f then number_front (b ∷ bytes)
    else if g then string_front bytes
    else if i then constant_front bytes
    else if j then (Token Hash, 1)
    else if k then slash_front (b ∷ bytes)
    else mark_front (b ∷ bytes)

numbers_fit : (bytes : List ℕ) → Fits (number_front bytes)
unfolding number_at
numbers_fit bytes = number_fits (radix_of bytes) (prefix_of bytes) bytes

any_fits : (b : ℕ) (bytes : List ℕ) → AreBytes (b ∷ bytes) → (a c d e f g i j k : Bool) → Fits (any_front b bytes a c d e f g i j k)
any_fits b bytes h true c d e f g i j k = tt
any_fits b bytes h false true d e f g i j k = tt
any_fits b bytes h false false true e f g i j k = tt
any_fits b bytes h false false false true f g i j k = word_of_text (take_while goes_on_name (b ∷ bytes)) (name_of_text (b ∷ bytes))
any_fits b bytes h false false false false true g i j k = numbers_fit (b ∷ bytes)
any_fits b bytes h false false false false false true i j k = string_fits bytes h.1
any_fits b bytes h false false false false false false true j k = constant_fits bytes
any_fits b bytes h false false false false false false false true k = tt
any_fits b bytes h false false false false false false false false true = slash_fits (b ∷ bytes)
any_fits b bytes h false false false false false false false false false = mark_fits (b ∷ bytes)

pub front_fits : (bytes : List ℕ) → AreBytes bytes → LexemeFits (front bytes).0
unfolding front
front_fits [] h = tt
front_fits (b ∷ bytes) h = any_fits b bytes h (is_blank b) (b == line_feed) (is_feed b) (starts_name b) (is_ascii_digit b) (b == quote) (b == apostrophe) (b == number_sign) (b == slash)

-- ---- all pieces

abbrev pub FoundFits : Found → Type 0
FoundFits (found.Token k) = RawIsOfText k
FoundFits x = Unit {0}

abbrev pub PiecesFit : List Piece → Type 0
PiecesFit [] = Unit {0}
PiecesFit (p ∷ ps) = FoundFits p.found × PiecesFit ps

both_fit : (ps qs : List Piece) → PiecesFit ps → PiecesFit qs → PiecesFit (ps ++ qs)
both_fit [] qs g h = h
both_fit (p ∷ ps) qs g h = (g.0, both_fit ps qs g.1 h)

abbrev junk : ℕ → Bool → List Piece × Option Gap
junk at b = if b then (record { found = found.BadChar; pos = at; gap = behind_token } ∷ [], None) else ([], Some behind_token)

some_junk : (at : ℕ) (b : Bool) → PiecesFit (junk at b).0
some_junk at true = (tt, tt)
some_junk at false = tt

junk_fits : (at : ℕ) (rest : List ℕ) → PiecesFit (junk_behind at rest).0
junk_fits at rest = some_junk at (begins goes_on_name rest)

lexeme_fits : (x : Lexeme) (at behind : ℕ) (gap : Gap) (rest : List ℕ) → LexemeFits x → PiecesFit (pieces_of x at behind gap rest).0
lexeme_fits Blank at behind gap rest h = tt
lexeme_fits Comment at behind gap rest h = tt
lexeme_fits LineFeed at behind gap rest h = tt
lexeme_fits Feed at behind gap rest h = tt
lexeme_fits (Token k) at behind gap rest h = (h, tt)
lexeme_fits (Number k) at behind gap rest h = (h, junk_fits behind rest)
lexeme_fits BadChar at behind gap rest h = (tt, tt)
lexeme_fits Unclosed at behind gap rest h = (tt, tt)

scan_fits : (most at : ℕ) (gap : Gap) (bytes : List ℕ) → AreBytes bytes → PiecesFit (scan most at gap bytes)
unfolding scan
scan_fits zero at gap bytes h = (tt, tt)
scan_fits (suc most) at gap [] h = (tt, tt)
scan_fits (suc most) at gap (b ∷ bytes) h =
    let here = front (b ∷ bytes) in
    let rest = drop here.1 (b ∷ bytes) in
    let got = pieces_of here.0 at (at + here.1) gap rest in
    both_fit got.0 (option_map_or (λ g. scan most (at + here.1) g rest) got.1 []) (lexeme_fits here.0 at (at + here.1) gap rest (front_fits (b ∷ bytes) h))
    (go got.1 (at + here.1) rest (λ g. scan_fits most (at + here.1) g rest (bytes_dropped here.1 (b ∷ bytes) h)))
  where
    go : (o : Option Gap) (place : ℕ) (rest : List ℕ) → ((g : Gap) → PiecesFit (scan most place g rest)) → PiecesFit (option_map_or (λ g. scan most place g rest) o [])
    go None place rest more = tt
    go (Some g) place rest more = more g

pub pieces_fit : (text : List ℕ) → AreBytes text → PiecesFit (pieces text)
pieces_fit text h = scan_fits (length text) 0 at_start text h

-- ---- tokens before directives are read

abbrev pub RawsAreOfText : List Raw → Type 0
RawsAreOfText [] = Unit {0}
RawsAreOfText (r ∷ rs) = RawIsOfText r.kind × RawsAreOfText rs

abbrev pub RawsFit : {E : Type 0} → Result (List Raw) E → Type 0
RawsFit (Ok raws) = RawsAreOfText raws
RawsFit (Err e) = Unit {0}

put_raw_fits : (x : Found) (at : ℕ) (gap : Gap) (r : Result (List Raw) LexFault) → FoundFits x → RawsFit r → RawsFit (put_raw (raw_of x at gap) r)
put_raw_fits (found.Token k) at gap (Ok raws) f h = (f, h)
put_raw_fits (found.Token k) at gap (Err e) f h = tt
put_raw_fits found.BadChar at gap r f h = tt
put_raw_fits found.Unclosed at gap r f h = tt

raws_fit : (ps : List Piece) → PiecesFit ps → RawsFit (raws_in ps)
raws_fit [] h = tt
raws_fit (p ∷ ps) h = put_raw_fits p.found p.pos p.gap (raws_in ps) h.0 (raws_fit ps h.1)

pub text_fits : (text : List ℕ) → AreBytes text → RawsFit (raw_tokens text)
unfolding raw_tokens
text_fits text h = raws_fit (pieces text) (pieces_fit text h)
