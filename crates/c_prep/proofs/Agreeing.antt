-- A text that `lex` reads stands for the same tokens.
use Rattle.std.proofs.Common.{◌≡◌, ℕ, zero, suc, ◌+◌, ◌≤◌, Bool, true, false, List, [], ◌∷◌, ◌++◌, length, map, fold, drop, Option, Some, None, refl, sym, ap, ◌∙◌, subst, arith}
use Rattle.std.proofs.lemmas.Bool.{and_parts}
use Rattle.std.proofs.lemmas.List.{length-map}
use Rattle.std.specs.Prelude.{Result, Ok, Err, not, ◌&&◌, ◌||◌, nat_lt, cond, slice_get, if◌then◌else◌, codes}
use Rattle.std.specs.Option.{option_map_or, unwrap_or}
use Rattle.std.specs.Result.{result_unwrap_or}
use Rattle.std.specs.Cmp.Lexicographic.{bytes_decides}
use Rattle.c_syntax.specs.declared.token.Kind.{Kind}
use Rattle.c_syntax.specs.declared.token.Kind.TheVariants as kind
use Rattle.c_syntax.specs.declared.token.Mark.{Mark}
use Rattle.c_syntax.specs.declared.token.Mark.TheVariants.{Less, Dot, Greater}
use Rattle.c_syntax.specs.declared.token.RawKind.{RawKind}
use Rattle.c_syntax.specs.declared.token.RawKind.TheVariants.{Plain, Hash, Wide}
use Rattle.c_syntax.specs.declared.token.Raw.{Raw}
use Rattle.c_syntax.specs.declared.token.Token.{Token}
use Rattle.c_syntax.specs.declared.token.LexFault.{LexFault}
use Rattle.c_syntax.specs.declared.header.Header.{Header}
use Rattle.c_syntax.specs.declared.header.Included.{Included}
use Rattle.c_syntax.specs.declared.front.Lexeme.{Lexeme}
use Rattle.c_syntax.specs.declared.front.Lexeme.TheVariants as lexeme
use Rattle.c_syntax.specs.declared.scan.Found.{Found}
use Rattle.c_syntax.specs.declared.scan.Found.TheVariants as found
use Rattle.c_syntax.specs.declared.scan.Gap.{Gap}
use Rattle.c_syntax.specs.declared.scan.Piece.{Piece}
use Rattle.c_syntax.specs.Bytes.{goes_on_name, begins}
use Rattle.c_syntax.specs.Header.{header_named}
use Rattle.c_syntax.specs.Front.{front}
use Rattle.c_syntax.specs.Scan.{at_start, behind_token, and_blank, and_line, and_feed, piece, end_piece, pieces_of, scan, pieces, raw_of, put_raw, raws_in, raw_tokens}
use Rattle.c_syntax.specs.Lex as lex
use Rattle.c_syntax.specs.Lex.{put, on_line, begins_line, is_name, mark_in, is_less, is_dot, is_greater, header_in, passes, begins_include, ends_include, header_at, has, with_header, included_at, directive, step, put_all, tokens_in, none_included, finish, lex_tokens}
use Rattle.c_prep.specs.declared.fault.PrepFault.{PrepFault}
use Rattle.c_prep.specs.declared.fault.PrepFault.TheVariants as fault
use Rattle.c_prep.specs.Macros.{Item, Act, Gives, item_of, kept_at, no_macros}
use Rattle.c_prep.specs.Directives as say
use Rattle.c_prep.specs.Directives.{Directive, Include, word_named, directive_at, taken_up, include_at, header_of}
use Rattle.c_prep.specs.Lines as line
use Rattle.c_prep.specs.Lines.{State, Step, lines, lengthened, line_step, text_acts, is_hash, and_more, acts_in, first_state, given, included_tokens}
use Rattle.c_prep.specs.Prepared.{replaced_in, items_in, ok_item, put_item, added_item, result_of, is_over, put_token, collected, outcome, of_acts, of_raws, prepared}
use Rattle.c_prep.specs.Laws.{AgreesWithLex}
use Rattle.c_prep.proofs.Hiding.{stays}

-- the pieces of a text: none that follows a token at once is the first of its line, but for the end
abbrev is_end : Found → Bool
is_end (found.Token (Plain kind.End)) = true
is_end f = false

abbrev Tidy : List Piece → Type 0
Tidy [] = Unit {0}
Tidy (p ∷ ps) = (is_end p.found ≡ false → p.gap.close ≡ true → p.gap.first ≡ false) × Tidy ps

abbrev Near : Gap → Type 0
Near gap = gap.close ≡ true → gap.first ≡ false

tidy_end : (at : ℕ) (gap : Gap) → Tidy (end_piece at gap ∷ [])
tidy_end at gap = (λ e c. absurd (cc (e)), tt)

scan_tidy : (most at : ℕ) (gap : Gap) (bytes : List ℕ) → Near gap → Tidy (scan most at gap bytes)
unfolding scan
scan_tidy zero at gap bytes h = tidy_end at gap
scan_tidy (suc most) at gap [] h = tidy_end at gap
scan_tidy (suc most) at gap (b ∷ bytes) h = by (front (b ∷ bytes)).0 (λ g near. scan_tidy most (at + n) g rest near) where
  n : ℕ
  n = (front (b ∷ bytes)).1

  rest : List ℕ
  rest = drop n (b ∷ bytes)

  number : (k : RawKind) (t : Bool) → ((g : Gap) → Near g → Tidy (scan most (at + n) g rest))
      → Tidy ((piece (found.Token k) at gap ∷ (cond {A = List Piece × Option Gap} t (piece found.BadChar (at + n) behind_token ∷ [], None) ([], Some behind_token)).0)
      ++ option_map_or (λ g. scan most (at + n) g rest) (cond {A = List Piece × Option Gap} t (piece found.BadChar (at + n) behind_token ∷ [], None) ([], Some behind_token)).1 [])
  number k true ih = (λ e c. h c, (λ e c. refl, tt))
  number k false ih = (λ e c. h c, ih behind_token (λ c. refl))

  by : (x : Lexeme) → ((g : Gap) → Near g → Tidy (scan most (at + n) g rest)) → Tidy ((pieces_of x at (at + n) gap rest).0 ++ option_map_or (λ g. scan most (at + n) g rest) (pieces_of x at (at + n) gap rest).1 [])
  by lexeme.Blank ih = ih (and_blank gap) (λ c. absurd (cc (c)))
  by lexeme.Comment ih = ih (and_blank gap) (λ c. absurd (cc (c)))
  by lexeme.LineFeed ih = ih (and_line gap) (λ c. absurd (cc (c)))
  by lexeme.Feed ih = ih (and_feed gap) (λ c. absurd (cc (c)))
  by (lexeme.Token k) ih = (λ e c. h c, ih behind_token (λ c. refl))
  by (lexeme.Number k) ih = number k (begins goes_on_name rest) ih
  by lexeme.BadChar ih = (λ e c. h c, tt)
  by lexeme.Unclosed ih = (λ e c. h c, tt)

-- what pieces are by what their tests say
abbrev named : List ℕ → Found
named name = found.Token (Plain (kind.Name name))

abbrev marked : Mark → Found
marked m = found.Token (Plain (kind.Mark m))

name_found : (word : List ℕ) (f : Found) → is_name word f ≡ true → f ≡ named word
name_found word (found.Token (Plain (kind.Name name))) h = ap named ((bytes_decides name word).0 h)
name_found word (found.Token (Plain _)) h = absurd (cc (h))
name_found word (found.Token Hash) h = absurd (cc (h))
name_found word (found.Token Wide) h = absurd (cc (h))
name_found word found.BadChar h = absurd (cc (h))
name_found word found.Unclosed h = absurd (cc (h))

mark_found : (f : Found) (m : Mark) → mark_in f ≡ Some m → f ≡ marked m
mark_found (found.Token (Plain (kind.Mark n))) m h = ap marked (ap (λ o. unwrap_or o n) h)
mark_found (found.Token (Plain _)) m h = absurd (cc (h))
mark_found (found.Token Hash) m h = absurd (cc (h))
mark_found (found.Token Wide) m h = absurd (cc (h))
mark_found found.BadChar m h = absurd (cc (h))
mark_found found.Unclosed m h = absurd (cc (h))

header_found : (f : Found) (header : Header) → header_in f ≡ Some header → (name : List ℕ) × (f ≡ named name) × (header_named name ≡ Some header)
header_found (found.Token (Plain (kind.Name name))) header h = (name, refl, h)
header_found (found.Token (Plain _)) header h = absurd (cc (h))
header_found (found.Token Hash) header h = absurd (cc (h))
header_found (found.Token Wide) header h = absurd (cc (h))
header_found found.BadChar header h = absurd (cc (h))
header_found found.Unclosed header h = absurd (cc (h))

less_is : (o : Option Mark) → is_less o ≡ true → o ≡ Some Less
less_is (Some Less) h = refl
less_is _ h = absurd (cc (h))

dot_is : (o : Option Mark) → is_dot o ≡ true → o ≡ Some Dot
dot_is (Some Dot) h = refl
dot_is _ h = absurd (cc (h))

greater_is : (o : Option Mark) → is_greater o ≡ true → o ≡ Some Greater
greater_is (Some Greater) h = refl
greater_is _ h = absurd (cc (h))

-- the pieces of a line that includes a header, behind its `#`
record Includes (ps : List Piece) (header : Header) : Type 0 where
  include : Piece
  less : Piece
  name : Piece
  dot : Piece
  h : Piece
  greater : Piece
  behind : Piece
  more : List Piece
  called : List ℕ
  cut : ps ≡ include ∷ less ∷ name ∷ dot ∷ h ∷ greater ∷ behind ∷ more
  include_is : include.found ≡ named (codes "include")
  include_on : include.gap.first ≡ false
  less_on : less.gap.first ≡ false
  less_is : less.found ≡ marked Less
  name_is : name.found ≡ named called
  name_close : name.gap.close ≡ true
  header_is : header_named called ≡ Some header
  dot_is : dot.found ≡ marked Dot
  dot_close : dot.gap.close ≡ true
  h_is : h.found ≡ named (codes "h")
  h_close : h.gap.close ≡ true
  greater_is : greater.found ≡ marked Greater
  greater_close : greater.gap.close ≡ true
  behind_first : behind.gap.first ≡ true

not_first : (gap : Gap) → on_line gap ≡ true → gap.first ≡ false
not_first gap h = at gap.first (and_parts (not gap.first) (not gap.feed) h).0 where
  at : (b : Bool) → not b ≡ true → b ≡ false
  at true e = absurd (cc (e))
  at false e = refl

-- tests that all pass
all_tests : (t0 o0 t1 o1 c2 t3 c3 t4 c4 t5 c5 f6 n6 : Bool) → ((((t0 && o0) && (t1 && o1)) && c2) && ((((t3 && c3) && (t4 && c4)) && (t5 && c5)) && (f6 && n6))) ≡ true
    → (t0 ≡ true) × (o0 ≡ true) × (t1 ≡ true) × (o1 ≡ true) × (c2 ≡ true) × (t3 ≡ true) × (c3 ≡ true) × (t4 ≡ true) × (c4 ≡ true) × (t5 ≡ true) × (c5 ≡ true) × (f6 ≡ true)
all_tests t0 o0 t1 o1 c2 t3 c3 t4 c4 t5 c5 f6 n6 h =
    let x = and_parts (((t0 && o0) && (t1 && o1)) && c2) ((((t3 && c3) && (t4 && c4)) && (t5 && c5)) && (f6 && n6)) h in
    let a = and_parts ((t0 && o0) && (t1 && o1)) c2 x.0 in
    let a01 = and_parts (t0 && o0) (t1 && o1) a.0 in
    let a0 = and_parts t0 o0 a01.0 in
    let a1 = and_parts t1 o1 a01.1 in
    let b = and_parts (((t3 && c3) && (t4 && c4)) && (t5 && c5)) (f6 && n6) x.1 in
    let b345 = and_parts ((t3 && c3) && (t4 && c4)) (t5 && c5) b.0 in
    let b34 = and_parts (t3 && c3) (t4 && c4) b345.0 in
    let b3 = and_parts t3 c3 b34.0 in
    let b4 = and_parts t4 c4 b34.1 in
    let b5 = and_parts t5 c5 b345.1 in
    (a0.0, a0.1, a1.0, a1.1, a.1, b3.0, b3.1, b4.0, b4.1, b5.0, b5.1, (and_parts f6 n6 b.1).0)

-- a line of a header has as many pieces
last_test : (ps : List Piece) → (begins_include ps && ends_include ps) ≡ true → passes (λ p. begins_line p.gap) 6 ps ≡ true
unfolding ends_include
last_test ps h =
    let a = passes (λ p. is_dot (mark_in p.found) && p.gap.close) 3 ps in
    let b = passes (λ p. is_name (codes "h") p.found && p.gap.close) 4 ps in
    let c = passes (λ p. is_greater (mark_in p.found) && p.gap.close) 5 ps in
    let d = passes (λ p. begins_line p.gap) 6 ps in
    (and_parts ((a && b) && c) d (and_parts (begins_include ps) (((a && b) && c) && d) h).1).1

includes : (ps : List Piece) (header : Header) → (begins_include ps && ends_include ps) ≡ true → passes (λ p. begins_line p.gap) 6 ps ≡ true → option_map_or (λ p. header_in p.found) (slice_get ps 2) None ≡ Some header → Includes ps header
unfolding begins_include ends_include
includes [] header h l e = absurd (cc (l))
includes (p0 ∷ []) header h l e = absurd (cc (l))
includes (p0 ∷ p1 ∷ []) header h l e = absurd (cc (l))
includes (p0 ∷ p1 ∷ p2 ∷ []) header h l e = absurd (cc (l))
includes (p0 ∷ p1 ∷ p2 ∷ p3 ∷ []) header h l e = absurd (cc (l))
includes (p0 ∷ p1 ∷ p2 ∷ p3 ∷ p4 ∷ []) header h l e = absurd (cc (l))
includes (p0 ∷ p1 ∷ p2 ∷ p3 ∷ p4 ∷ p5 ∷ []) header h l e = absurd (cc (l))
includes (p0 ∷ p1 ∷ p2 ∷ p3 ∷ p4 ∷ p5 ∷ p6 ∷ ps) header h l e =
    let t = all_tests (is_name (codes "include") p0.found) (on_line p0.gap) (is_less (mark_in p1.found)) (on_line p1.gap) p2.gap.close (is_dot (mark_in p3.found)) p3.gap.close
    (is_name (codes "h") p4.found) p4.gap.close (is_greater (mark_in p5.found)) p5.gap.close p6.gap.first (not p6.gap.feed) h in
    let name = header_found p2.found header e in
    record {
      include = p0;
      less = p1;
      name = p2;
      dot = p3;
      h = p4;
      greater = p5;
      behind = p6;
      more = ps;
      called = name.0;
      cut = refl;
      include_is = name_found (codes "include") p0.found t.0;
      include_on = not_first p0.gap t.1;
      less_is = mark_found p1.found Less (less_is (mark_in p1.found) t.2);
      less_on = not_first p1.gap t.3;
      name_is = name.1;
      name_close = t.4;
      header_is = name.2;
      dot_is = mark_found p3.found Dot (dot_is (mark_in p3.found) t.5);
      dot_close = t.6;
      h_is = name_found (codes "h") p4.found t.7;
      h_close = t.8;
      greater_is = mark_found p5.found Greater (greater_is (mark_in p5.found) t.9);
      greater_close = t.10;
      behind_first = t.11;
    }

includes_at : (ps : List Piece) (header : Header) → header_at ps ≡ Some header → Includes ps header
unfolding header_at
includes_at ps header h = at (begins_include ps && ends_include ps) refl h where
  at : (b : Bool) → (begins_include ps && ends_include ps) ≡ b → (if b then option_map_or (λ p. header_in p.found) (slice_get ps 2) None else None) ≡ Some header → Includes ps header
  at true t e = includes ps header t (last_test ps t) e
  at false t e = absurd (cc (e))

-- the tokens of pieces
raw_of_is : (p : Piece) (k : RawKind) → p.found ≡ found.Token k → raw_of p.found p.pos p.gap ≡ Ok (record { kind = k; pos = p.pos; first = p.gap.first; close = p.gap.close })
raw_of_is p k e = ap (λ f. raw_of f p.pos p.gap) e

raws_more : (p : Piece) (ps : List Piece) (k : RawKind) (raws : List Raw) → p.found ≡ found.Token k → raws_in ps ≡ Ok raws → raws_in (p ∷ ps) ≡ Ok (record { kind = k; pos = p.pos; first = p.gap.first; close = p.gap.close } ∷ raws)
raws_more p ps k raws e h = ap (λ r. put_raw r (raws_in ps)) (raw_of_is p k e) ∙ ap (put_raw (Ok (record { kind = k; pos = p.pos; first = p.gap.first; close = p.gap.close }))) h

-- the state of a text that defines nothing
abbrev state : Included → State
state i = record { macros = no_macros; included = i; opens = [] }

-- the first token is the first of its line, or no `#`
abbrev head_fits : List Raw → Bool
head_fits [] = true
head_fits (r ∷ rs) = r.first || not (is_hash r.kind)

-- pieces have these tokens, whose lines stand for the tokens that `lex` gives
record Agrees (i : Included) (ps : List Piece) (ts : List Token) : Type 0 where
  raws : List Raw
  read : raws_in ps ≡ Ok raws
  fits : head_fits raws ≡ true
  same : (most : ℕ) → acts_in most (state i) (lines raws) ≡ Ok (given ts)

none_kept : (k : RawKind) → kept_at k no_macros ≡ None
none_kept (Plain (kind.Name name)) = refl
none_kept (Plain _) = refl
none_kept Hash = refl
none_kept Wide = refl

abbrev item : Raw → Act
item r = Gives (item_of r.kind r.pos)

-- lines of text
text_step : (most : ℕ) (i : Included) (r : Raw) (rs : List Raw) → is_hash r.kind ≡ false → line_step most (state i) (r ∷ rs) ≡ Ok (record { acts = text_acts most true no_macros (r ∷ rs); state = state i })
unfolding line_step
text_step most i r rs h = ap (λ b. if b then line.directed (state i) r.pos (directive_at true r.pos rs) else Ok (record { acts = text_acts most true no_macros (r ∷ rs); state = state i })) h

one_line : (r : Raw) (rs : List Raw) → line.begins_line rs ≡ true → lines (r ∷ rs) ≡ (r ∷ []) ∷ lines rs
one_line r rs h = ap (λ b. if b then (r ∷ []) ∷ lines rs else lengthened r (lines rs)) h

same_line : (r : Raw) (rs : List Raw) → line.begins_line rs ≡ false → lines (r ∷ rs) ≡ lengthened r (lines rs)
same_line r rs h = ap (λ b. if b then (r ∷ []) ∷ lines rs else lengthened r (lines rs)) h

-- the first line begins with the first token
record Headed (r : Raw) (ls : List (List Raw)) : Type 0 where
  rest : List Raw
  more : List (List Raw)
  cut : ls ≡ (r ∷ rest) ∷ more

lines_head : (r : Raw) (rs : List Raw) → Headed r (lines (r ∷ rs))
lines_head r rs = at (line.begins_line rs) (lines rs) where
  at : (b : Bool) (ls : List (List Raw)) → Headed r (if b then (r ∷ []) ∷ ls else lengthened r ls)
  at true ls = record { rest = []; more = ls; cut = refl }
  at false [] = record { rest = []; more = []; cut = refl }
  at false (l ∷ ls) = record { rest = l; more = ls; cut = refl }

and_more_cons : (a : Act) (acts : List Act) (there : Result (List Act) PrepFault) (all : List Act) → and_more acts there ≡ Ok all → and_more (a ∷ acts) there ≡ Ok (a ∷ all)
and_more_cons a acts (Ok more) all h = ap (λ (o : Result (List Act) PrepFault). Ok (a ∷ result_unwrap_or o [])) h
and_more_cons a acts (Err e) all h = absurd (cc (h))

text_line : (most : ℕ) (i : Included) (r : Raw) (rs : List Raw) (more : List (List Raw)) (acts : List Act) → is_hash r.kind ≡ false
    → and_more (text_acts most true no_macros rs) (acts_in most (state i) more) ≡ Ok acts → acts_in most (state i) ((r ∷ rs) ∷ more) ≡ Ok (item r ∷ acts)
text_line most i r rs more acts e h =
    ap (λ z. line.and_then z (λ step. and_more step.acts (acts_in most step.state more))) (text_step most i r rs e)
    ∙ ap (λ (z : List Act). and_more (z ++ text_acts most true no_macros rs) (acts_in most (state i) more)) (stays most no_macros r.pos r.kind (none_kept r.kind))
    ∙ and_more_cons (item r) (text_acts most true no_macros rs) (acts_in most (state i) more) acts h

text_first : (most : ℕ) (i : Included) (r : Raw) (rs : List Raw) (acts : List Act) → is_hash r.kind ≡ false → head_fits rs ≡ true → acts_in most (state i) (lines rs) ≡ Ok acts
    → acts_in most (state i) (lines (r ∷ rs)) ≡ Ok (item r ∷ acts)
text_first most i r [] acts e f h = text_line most i r [] [] acts e (ap (and_more []) h)
text_first most i r (s ∷ rs) acts e f h = at s.first refl f where
  at : (b : Bool) → s.first ≡ b → (b || not (is_hash s.kind)) ≡ true → acts_in most (state i) (lines (r ∷ s ∷ rs)) ≡ Ok (item r ∷ acts)
  at true t g = ap (acts_in most (state i)) (one_line r (s ∷ rs) t) ∙ text_line most i r [] (lines (s ∷ rs)) acts e (ap (and_more []) h)
  at false t g =
      let l = lines_head s rs in
      ap (acts_in most (state i)) (same_line r (s ∷ rs) t ∙ ap (lengthened r) l.cut)
      ∙ text_line most i r (s ∷ l.rest) l.more acts e (sym (ap (λ z. line.and_then z (λ step. and_more step.acts (acts_in most step.state l.more))) (text_step most i s l.rest (falls (is_hash s.kind) g))) ∙ sym (ap (acts_in most (state i)) l.cut) ∙ h)
    where
      falls : (b : Bool) → not b ≡ true → b ≡ false
      falls true q = absurd (cc (q))
      falls false q = refl

-- a line that includes a header
abbrev raw_at : Piece → RawKind → Raw
raw_at p k = record { kind = k; pos = p.pos; first = p.gap.first; close = p.gap.close }

four : (a b c d : Bool) → a ≡ true → b ≡ true → c ≡ true → d ≡ true → (a && ((((b && true) && c) && true) && d)) ≡ true
four a b c d ha hb hc hd = ap (λ x. x && ((((b && true) && c) && true) && d)) ha ∙ ap (λ x. (((x && true) && c) && true) && d) hb ∙ ap (λ x. (x && true) && d) hc ∙ hd

abbrev args : (p0 p1 p2 p3 p4 p5 : Piece) → List ℕ → List Raw → List Raw
args p0 p1 p2 p3 p4 p5 called rs =
    raw_at p0 (Plain (kind.Name (codes "include"))) ∷ raw_at p1 (Plain (kind.Mark Less)) ∷ raw_at p2 (Plain (kind.Name called)) ∷ raw_at p3 (Plain (kind.Mark Dot)) ∷ raw_at p4 (Plain (kind.Name (codes "h"))) ∷ raw_at p5 (Plain (kind.Mark Greater)) ∷ rs

says_include : (at : ℕ) (p0 p1 p2 p3 p4 p5 : Piece) (called : List ℕ) (header : Header) → p2.gap.close ≡ true → p3.gap.close ≡ true → p4.gap.close ≡ true → p5.gap.close ≡ true → header_named called ≡ Some header
    → directive_at true at (args p0 p1 p2 p3 p4 p5 called []) ≡ Ok (Include header)
unfolding directive_at taken_up header_of
says_include at p0 p1 p2 p3 p4 p5 called header c2 c3 c4 c5 there =
    ap (λ b. if b then option_map_or (say.header_before []) (header_named called) (Err at) else Err at) (four p2.gap.close p3.gap.close p4.gap.close p5.gap.close c2 c3 c4 c5)
    ∙ ap (λ o. option_map_or (say.header_before []) o (Err at)) there

abbrev hash_at : Piece → Raw
hash_at p = raw_at p Hash

include_line : (most : ℕ) (i : Included) (p : Piece) (rs : List Raw) (header : Header) (more : List (List Raw)) (acts : List Act) → directive_at true p.pos rs ≡ Ok (Include header)
    → acts_in most (state (with_header i header)) more ≡ Ok acts → acts_in most (state i) ((hash_at p ∷ rs) ∷ more) ≡ Ok (line.header_acts i header p.pos ++ acts)
unfolding line_step
include_line most i p rs header more acts d h =
    ap (λ z. line.and_then (line.directed (state i) p.pos z) (λ step. and_more step.acts (acts_in most step.state more))) d
    ∙ ap (and_more (line.header_acts i header p.pos)) h

longer_line : (r s : Raw) (rs l : List Raw) (more : List (List Raw)) → s.first ≡ false → lines (s ∷ rs) ≡ l ∷ more → lines (r ∷ s ∷ rs) ≡ (r ∷ l) ∷ more
longer_line r s rs l more h e = same_line r (s ∷ rs) h ∙ ap (lengthened r) e

one_include : (p p0 p1 p2 p3 p4 p5 : Piece) (called : List ℕ) (rs : List Raw) → p0.gap.first ≡ false → p1.gap.first ≡ false → p2.gap.first ≡ false → p3.gap.first ≡ false → p4.gap.first ≡ false → p5.gap.first ≡ false
    → line.begins_line rs ≡ true → lines (hash_at p ∷ args p0 p1 p2 p3 p4 p5 called rs) ≡ (hash_at p ∷ args p0 p1 p2 p3 p4 p5 called []) ∷ lines rs
one_include p p0 p1 p2 p3 p4 p5 called rs f0 f1 f2 f3 f4 f5 b =
    let r0 = raw_at p0 (Plain (kind.Name (codes "include"))) in
    let r1 = raw_at p1 (Plain (kind.Mark Less)) in
    let r2 = raw_at p2 (Plain (kind.Name called)) in
    let r3 = raw_at p3 (Plain (kind.Mark Dot)) in
    let r4 = raw_at p4 (Plain (kind.Name (codes "h"))) in
    let r5 = raw_at p5 (Plain (kind.Mark Greater)) in
    let more = lines rs in
    let e5 : lines (r5 ∷ rs) ≡ (r5 ∷ []) ∷ more = one_line r5 rs b in
    let e4 : lines (r4 ∷ r5 ∷ rs) ≡ (r4 ∷ r5 ∷ []) ∷ more = longer_line r4 r5 rs (r5 ∷ []) more f5 e5 in
    let e3 : lines (r3 ∷ r4 ∷ r5 ∷ rs) ≡ (r3 ∷ r4 ∷ r5 ∷ []) ∷ more = longer_line r3 r4 (r5 ∷ rs) (r4 ∷ r5 ∷ []) more f4 e4 in
    let e2 : lines (r2 ∷ r3 ∷ r4 ∷ r5 ∷ rs) ≡ (r2 ∷ r3 ∷ r4 ∷ r5 ∷ []) ∷ more = longer_line r2 r3 (r4 ∷ r5 ∷ rs) (r3 ∷ r4 ∷ r5 ∷ []) more f3 e3 in
    let e1 : lines (r1 ∷ r2 ∷ r3 ∷ r4 ∷ r5 ∷ rs) ≡ (r1 ∷ r2 ∷ r3 ∷ r4 ∷ r5 ∷ []) ∷ more = longer_line r1 r2 (r3 ∷ r4 ∷ r5 ∷ rs) (r2 ∷ r3 ∷ r4 ∷ r5 ∷ []) more f2 e2 in
    let e0 : lines (r0 ∷ r1 ∷ r2 ∷ r3 ∷ r4 ∷ r5 ∷ rs) ≡ (r0 ∷ r1 ∷ r2 ∷ r3 ∷ r4 ∷ r5 ∷ []) ∷ more = longer_line r0 r1 (r2 ∷ r3 ∷ r4 ∷ r5 ∷ rs) (r1 ∷ r2 ∷ r3 ∷ r4 ∷ r5 ∷ []) more f1 e1 in
    longer_line (hash_at p) r0 (r1 ∷ r2 ∷ r3 ∷ r4 ∷ r5 ∷ rs) (r0 ∷ r1 ∷ r2 ∷ r3 ∷ r4 ∷ r5 ∷ []) more f0 e0

-- the tokens of a line that includes a header stand for nothing
skips : (i : Included) (p : Piece) (ps : List Piece) → p.gap.first ≡ false → tokens_in i true (p ∷ ps) ≡ tokens_in i true ps
skips i p ps h = ap (λ b. if not b then tokens_in i true ps else lex.and_then (step i p.found p.pos p.gap ps) (λ s. put_all s.tokens (tokens_in s.included s.inside ps))) h

resumes : (i : Included) (p : Piece) (ps : List Piece) → p.gap.first ≡ true → tokens_in i true (p ∷ ps) ≡ tokens_in i false (p ∷ ps)
resumes i p ps h = ap (λ b. if not b then tokens_in i true ps else lex.and_then (step i p.found p.pos p.gap ps) (λ s. put_all s.tokens (tokens_in s.included s.inside ps))) h

begins_as : (p : Piece) (ps : List Piece) (raws : List Raw) → raws_in (p ∷ ps) ≡ Ok raws → p.gap.first ≡ true → line.begins_line raws ≡ true
begins_as p ps raws h first = by p.found (raws_in ps) h where
  by : (f : Found) (there : Result (List Raw) LexFault) → put_raw (raw_of f p.pos p.gap) there ≡ Ok raws → line.begins_line raws ≡ true
  by (found.Token k) (Ok rs) e = ap (λ (o : Result (List Raw) LexFault). line.begins_line (result_unwrap_or o [])) (sym e) ∙ first
  by (found.Token k) (Err f) e = absurd (cc (e))
  by found.BadChar there e = absurd (cc (e))
  by found.Unclosed there e = absurd (cc (e))

-- tokens, and those behind them
put_parts : (ts : List Token) (there : Result (List Token) LexFault) (all : List Token) → put_all ts there ≡ Ok all → (rest : List Token) × (there ≡ Ok rest) × (ts ++ rest ≡ all)
put_parts ts (Ok rest) all h = (rest, refl, ap (λ (o : Result (List Token) LexFault). result_unwrap_or o []) h)
put_parts ts (Err e) all h = absurd (cc (h))

given_both : (ts us : List Token) → given ts ++ given us ≡ given (ts ++ us)
given_both [] us = refl
given_both (t ∷ ts) us = ap (λ (z : List Act). Gives (Ok t) ∷ z) (given_both ts us)

or_true : (b : Bool) → (b || true) ≡ true
or_true true = refl
or_true false = refl

-- shorter pieces agree
abbrev Shorter : ℕ → Type 0
Shorter n = (i : Included) (qs : List Piece) (us : List Token) → length qs ≤ n → Tidy qs → tokens_in i false qs ≡ Ok us → Agrees i qs us

by_text : (n : ℕ) (i : Included) (p : Piece) (ps : List Piece) (k : Kind) (ts : List Token) → Shorter n → length ps ≤ n → Tidy ps → p.found ≡ found.Token (Plain k)
    → put_all (record { kind = k; pos = p.pos } ∷ []) (tokens_in i false ps) ≡ Ok ts → Agrees i (p ∷ ps) ts
by_text n i p ps k ts ih le tidy e h =
    let m = put_parts (record { kind = k; pos = p.pos } ∷ []) (tokens_in i false ps) ts h in
    let a = ih i ps m.0 le tidy m.1 in
    record {
      raws = raw_at p (Plain k) ∷ a.raws;
      read = raws_more p ps (Plain k) a.raws e a.read;
      fits = or_true p.gap.first;
      same = λ most. text_first most i (raw_at p (Plain k)) a.raws (given m.0) refl a.fits (a.same most) ∙ ap (λ (z : List Token). Ok (given z)) m.2;
    }

by_include : (n : ℕ) (i : Included) (p : Piece) (ps : List Piece) (header : Header) (ts : List Token) → Shorter n → length ps ≤ n → Tidy ps → p.found ≡ found.Token Hash → p.gap.first ≡ true → Includes ps header
    → put_all (included_at i header p.pos).tokens (tokens_in (with_header i header) true ps) ≡ Ok ts → Agrees i (p ∷ ps) ts
by_include n i p ps header ts ih le tidy e first c h =
    let toks = (included_at i header p.pos).tokens in
    let j = with_header i header in
    let m = put_parts toks (tokens_in j true ps) ts h in
    let qs = c.behind ∷ c.more in
    let q5 = c.greater ∷ qs in
    let q4 = c.h ∷ q5 in
    let q3 = c.dot ∷ q4 in
    let q2 = c.name ∷ q3 in
    let q1 = c.less ∷ q2 in
    let neat : Tidy (c.include ∷ c.less ∷ c.name ∷ c.dot ∷ c.h ∷ c.greater ∷ qs) = subst Tidy c.cut tidy in
    let f2 : c.name.gap.first ≡ false = neat.1.1.0 (ap is_end c.name_is) c.name_close in
    let f3 : c.dot.gap.first ≡ false = neat.1.1.1.0 (ap is_end c.dot_is) c.dot_close in
    let f4 : c.h.gap.first ≡ false = neat.1.1.1.1.0 (ap is_end c.h_is) c.h_close in
    let f5 : c.greater.gap.first ≡ false = neat.1.1.1.1.1.0 (ap is_end c.greater_is) c.greater_close in
    let on : tokens_in j true ps ≡ tokens_in j false qs =
    ap (tokens_in j true) c.cut ∙ skips j c.include q1 c.include_on ∙ skips j c.less q2 c.less_on ∙ skips j c.name q3 f2 ∙ skips j c.dot q4 f3 ∙ skips j c.h q5 f4 ∙ skips j c.greater qs f5 ∙ resumes j c.behind c.more c.behind_first in
    let a = ih j qs m.0 (omega (arith, le, ap (λ (z : List Piece). length z) c.cut)) neat.1.1.1.1.1.1 (sym on ∙ m.1) in
    record {
      raws = hash_at p ∷ args c.include c.less c.name c.dot c.h c.greater c.called a.raws;
      read = raws_more p ps Hash (args c.include c.less c.name c.dot c.h c.greater c.called a.raws) e (
          ap raws_in c.cut ∙ raws_more c.include q1 _ _ c.include_is (raws_more c.less q2 _ _ c.less_is (raws_more c.name q3 _ _ c.name_is (raws_more c.dot q4 _ _ c.dot_is (raws_more c.h q5 _ _ c.h_is (raws_more c.greater qs _ _ c.greater_is a.read)))))
          );
      fits = ap (λ b. b || false) first;
      same = λ most.
          ap (acts_in most (state i)) (one_include p c.include c.less c.name c.dot c.h c.greater c.called a.raws c.include_on c.less_on f2 f3 f4 f5 (begins_as c.behind c.more a.raws a.read c.behind_first))
          ∙ include_line most i p (args c.include c.less c.name c.dot c.h c.greater c.called []) header (lines a.raws) (given m.0)
          (says_include p.pos c.include c.less c.name c.dot c.h c.greater c.called header c.name_close c.dot_close c.h_close c.greater_close c.header_is) (a.same most)
          ∙ ap (λ (z : List Act). Ok z) (given_both toks m.0) ∙ ap (λ (z : List Token). Ok (given z)) m.2;
    }

by_hash : (n : ℕ) (i : Included) (p : Piece) (ps : List Piece) (ts : List Token) → Shorter n → length ps ≤ n → Tidy ps → p.found ≡ found.Token Hash → (b : Bool) → p.gap.first ≡ b → (o : Option Header) → header_at ps ≡ o
    → lex.and_then (directive i b o p.pos) (λ s. put_all s.tokens (tokens_in s.included s.inside ps)) ≡ Ok ts → Agrees i (p ∷ ps) ts
by_hash n i p ps ts ih le tidy e true first (Some header) there h = by_include n i p ps header ts ih le tidy e first (includes_at ps header there) h
by_hash n i p ps ts ih le tidy e true first None there h = absurd (cc (h))
by_hash n i p ps ts ih le tidy e false first o there h = absurd (cc (h))

by_piece : (n : ℕ) (i : Included) (p : Piece) (ps : List Piece) (ts : List Token) → Shorter n → length ps ≤ n → Tidy ps → (f : Found) → p.found ≡ f
    → lex.and_then (step i f p.pos p.gap ps) (λ s. put_all s.tokens (tokens_in s.included s.inside ps)) ≡ Ok ts → Agrees i (p ∷ ps) ts
by_piece n i p ps ts ih le tidy (found.Token (Plain k)) e h = by_text n i p ps k ts ih le tidy e h
by_piece n i p ps ts ih le tidy (found.Token Hash) e h = by_hash n i p ps ts ih le tidy e p.gap.first refl (header_at ps) refl h
by_piece n i p ps ts ih le tidy (found.Token Wide) e h = absurd (cc (h))
by_piece n i p ps ts ih le tidy found.BadChar e h = absurd (cc (h))
by_piece n i p ps ts ih le tidy found.Unclosed e h = absurd (cc (h))

agrees : (n : ℕ) (i : Included) (ps : List Piece) (ts : List Token) → length ps ≤ n → Tidy ps → tokens_in i false ps ≡ Ok ts → Agrees i ps ts
agrees n i [] ts le tidy h = record { raws = []; read = refl; fits = refl; same = λ most. ap (λ (o : Result (List Token) LexFault). Ok (given (result_unwrap_or o []))) h }
agrees zero i (p ∷ ps) ts le tidy h = absurd (omega (arith, le))
agrees (suc n) i (p ∷ ps) ts le tidy h = by_piece n i p ps ts (λ j qs us l t g. agrees n j qs us l t g) (omega (arith, le)) tidy.1 p.found refl h

-- what tokens give alone
items_given : (ts : List Token) → items_in (given ts) ≡ map ok_item ts
items_given [] = refl
items_given (t ∷ ts) = ap (λ (z : List Item). Ok t ∷ z) (items_given ts)

replaced_given : (ts : List Token) → replaced_in (given ts) ≡ 0
replaced_given [] = refl
replaced_given (t ∷ ts) = replaced_given ts

added_given : (xs : List Token) (t : Token) → added_item (map ok_item xs) (Ok t) ≡ map ok_item (lex.added xs t)
added_given [] t = refl
added_given (x ∷ []) t = refl
added_given (x ∷ y ∷ xs) t = ap (λ (z : List Item). Ok x ∷ z) (added_given (y ∷ xs) t)

fold_given : (xs ts : List Token) → fold put_item (map ok_item xs) (map ok_item ts) ≡ map ok_item (fold put xs ts)
fold_given xs [] = refl
fold_given xs (t ∷ ts) =
    ap (λ (z : List Item). fold put_item z (map ok_item ts)) (added_given xs (record { kind = lex.named_constant t.kind; pos = t.pos })) ∙ fold_given (put xs t) ts

result_given : (ts : List Token) → result_of (given ts) ≡ map ok_item (fold put [] ts)
result_given ts = ap (fold put_item []) (items_given ts) ∙ fold_given [] ts

collected_given : (ts : List Token) → collected (map ok_item ts) ≡ Ok ts
collected_given [] = refl
collected_given (t ∷ ts) = ap (put_token t) (collected_given ts)

outcome_given : (ts : List Token) → outcome (given ts) ≡ (if nat_lt 1000001 (length (fold put [] ts)) then Err fault.TooLarge else Ok (fold put [] ts))
unfolding is_over
outcome_given ts =
    ap (λ n. if nat_lt 1000000 n || nat_lt 1000001 (length (result_of (given ts))) then Err fault.TooLarge else collected (result_of (given ts))) (replaced_given ts)
    ∙ ap (λ (z : List Item). if nat_lt 1000001 (length z) then Err fault.TooLarge else collected z) (result_given ts)
    ∙ ap (λ n. if nat_lt 1000001 n then Err fault.TooLarge else collected (map ok_item (fold put [] ts))) (length-map (fold put [] ts) ok_item)
    ∙ ap (λ (r : Result (List Token) PrepFault). if nat_lt 1000001 (length (fold put [] ts)) then Err fault.TooLarge else r) (collected_given (fold put [] ts))

-- the tokens that `lex` finishes
finish_parts : (there : Result (List Token) LexFault) (tokens : List Token) → finish [] there ≡ Ok tokens → (ts : List Token) × (there ≡ Ok ts) × (fold put [] ts ≡ tokens)
finish_parts (Ok ts) tokens h = (ts, refl, ap (λ (o : Result (List Token) LexFault). result_unwrap_or o []) h)
finish_parts (Err e) tokens h = absurd (cc (h))

pub agrees_with_lex : AgreesWithLex
unfolding lex_tokens raw_tokens prepared
agrees_with_lex = λ text tokens h.
    let m = finish_parts (tokens_in none_included false (pieces text)) tokens h in
    let a = agrees (length (pieces text)) none_included (pieces text) m.0 (omega arith) (scan_tidy (length text) 0 at_start text (λ c. absurd (cc (c)))) m.1 in
    ap of_raws a.read ∙ ap of_acts (a.same (length a.raws)) ∙ outcome_given m.0
    ∙ ap (λ (z : List Token). if nat_lt 1000001 (length z) then Err fault.TooLarge else Ok z) m.2
