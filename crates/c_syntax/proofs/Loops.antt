-- Reading part by part, as a loop does.
use Rattle.std.proofs.Common.{◌≡◌, ℕ, zero, suc, ◌+◌, ◌-◌, ◌≤◌, ◌<◌, List, [], ◌∷◌, ◌++◌, length, drop, Option, Some, None, refl, sym, ap, ◌∙◌, append_assoc, arith}
use Rattle.std.proofs.lemmas.List.{append-nil}
use Rattle.std.proofs.lemmas.Bool.Decides.{nat_tests}
use Rattle.std.specs.Prelude.{Result, Ok, Err, option_to_list, Bool, true, false, ◌==◌}
use Rattle.std.specs.Option.{option_map_or}
use Rattle.c_syntax.specs.declared.token.Raw.{Raw}
use Rattle.c_syntax.specs.declared.token.LexFault.{LexFault}
use Rattle.c_syntax.specs.declared.front.Lexeme.{Lexeme}
use Rattle.c_syntax.specs.declared.scan.Gap.{Gap}
use Rattle.c_syntax.specs.declared.scan.Piece.{Piece}
use Rattle.c_syntax.specs.Front.{unescaped, character_at, put_before, front}
use Rattle.c_syntax.specs.declared.token.LexFault.TheVariants as fault
use Rattle.c_syntax.specs.Scan.{Fails, scan, pieces_of, end_piece, raw_of, raws_in, put_raw}

-- what the test of an empty list says
pub is_none : (n : ℕ) (b : Bool) → b ≡ (n == 0) → b ≡ true → n ≡ 0
is_none n b h e = grind (arith, nat_tests)

pub is_some : (n : ℕ) (b : Bool) → b ≡ (n == 0) → b ≡ false → 0 < n
is_some n b h e = grind (arith, nat_tests)

-- the bytes that were read before, and what is still read
abbrev pub with_bytes : List ℕ → Result (List ℕ) ℕ → Result (List ℕ) ℕ
with_bytes before (Ok text) = Ok (before ++ text)
with_bytes before (Err k) = Err k

regroup : (before : List ℕ) (b : ℕ) (read : Result (List ℕ) ℕ) → with_bytes before (put_before b read) ≡ with_bytes (before ++ b ∷ []) read
regroup before b (Ok text) = ap (λ (bs : List ℕ). Ok bs) (sym (append_assoc before (b ∷ []) text))
regroup before b (Err k) = refl

bytes_end : (most at : ℕ) → unescaped most at [] ≡ Ok []
bytes_end zero at = refl
bytes_end (suc most) at = refl

-- nothing is left
pub all_bytes : (before rest : List ℕ) (most at : ℕ) (total : Result (List ℕ) ℕ) → length rest ≡ 0 → with_bytes before (unescaped most at rest) ≡ total → Ok before ≡ total
all_bytes before [] most at total h so_far = sym (ap (with_bytes before) (bytes_end most at) ∙ ap (λ (bs : List ℕ). Ok bs) (append-nil before)) ∙ so_far
all_bytes before (b ∷ rest) most at total h so_far = absurd (omega (arith, h))

-- a byte that is read by what the character is
by_character : (most at : ℕ) (rest : List ℕ) → 0 < length rest → unescaped (suc most) at rest ≡ option_map_or (λ c. put_before c.0 (unescaped most (at + c.1) (drop c.1 rest))) (character_at rest) (Err at)
by_character most at [] h = absurd (omega (arith, h))
by_character most at (b ∷ rest) h = refl

-- one byte more
pub next_byte : (before rest : List ℕ) (count i at c n : ℕ) (total : Result (List ℕ) ℕ) → i < count → 0 < length rest → Some (c, n) ≡ character_at rest
    → with_bytes before (unescaped (count - i) at rest) ≡ total → with_bytes (before ++ c ∷ []) (unescaped (count - (i + 1)) (at + n) (drop n rest)) ≡ total
next_byte before rest count i at c n total lt some e so_far =
    let k : count - i ≡ suc (count - (i + 1)) = omega arith in
    let one : unescaped (count - i) at rest ≡ put_before c (unescaped (count - (i + 1)) (at + n) (drop n rest)) =
    ap (λ m. unescaped m at rest) k ∙ by_character (count - (i + 1)) at rest some
    ∙ ap (λ (o : Option (ℕ × ℕ)). option_map_or (λ c. put_before c.0 (unescaped (count - (i + 1)) (at + c.1) (drop c.1 rest))) o (Err at)) (sym e) in
    sym (ap (with_bytes before) one ∙ regroup before c (unescaped (count - (i + 1)) (at + n) (drop n rest))) ∙ so_far

-- a backslash that starts no escape
pub no_byte : (before rest : List ℕ) (count i at : ℕ) (total : Result (List ℕ) ℕ) → i < count → 0 < length rest → None ≡ character_at rest
    → with_bytes before (unescaped (count - i) at rest) ≡ total → Err at ≡ total
no_byte before rest count i at total lt some e so_far =
    let k : count - i ≡ suc (count - (i + 1)) = omega arith in
    let one : unescaped (count - i) at rest ≡ Err at =
    ap (λ m. unescaped m at rest) k ∙ by_character (count - (i + 1)) at rest some
    ∙ ap (λ (o : Option (ℕ × ℕ)). option_map_or (λ c. put_before c.0 (unescaped (count - (i + 1)) (at + c.1) (drop c.1 rest))) o (Err at)) (sym e) in
    sym (ap (with_bytes before) one) ∙ so_far

-- the pieces of what is left, where nothing is
pub scan_end : (most at : ℕ) (gap : Gap) (rest : List ℕ) → length rest ≡ 0 → scan most at gap rest ≡ end_piece at gap ∷ []
unfolding scan
scan_end zero at gap rest h = refl
scan_end (suc most) at gap [] h = refl
scan_end (suc most) at gap (b ∷ rest) h = absurd (omega (arith, h))

pub scan_none : (count i at : ℕ) (gap : Gap) (rest : List ℕ) → count ≤ i → scan (count - i) at gap rest ≡ end_piece at gap ∷ []
unfolding scan
scan_none count i at gap rest le = let k : count - i ≡ 0 = omega arith in ap (λ m. scan m at gap rest) k

-- the pieces by what stands at the front
scan_by : (most at : ℕ) (gap : Gap) (rest : List ℕ) (x : Lexeme) (n : ℕ) → 0 < length rest → (x, n) ≡ front rest
    → scan (suc most) at gap rest ≡ (pieces_of x at (at + n) gap (drop n rest)).0 ++ option_map_or (λ g. scan most (at + n) g (drop n rest)) (pieces_of x at (at + n) gap (drop n rest)).1 []
unfolding scan
scan_by most at gap [] x n some e = absurd (omega (arith, some))
scan_by most at gap (b ∷ rest) x n some e = ap (λ (here : Lexeme × ℕ). (pieces_of here.0 at (at + here.1) gap (drop here.1 (b ∷ rest))).0 ++ option_map_or (λ g. scan most (at + here.1) g (drop here.1 (b ∷ rest))) (pieces_of here.0 at (at + here.1) gap (drop here.1 (b ∷ rest))).1 []) (sym e)

-- one part more
pub next_part : (before : List Piece) (count i at n : ℕ) (gap next : Gap) (rest : List ℕ) (x : Lexeme) (total : List Piece) → i < count → 0 < length rest → (x, n) ≡ front rest
    → Some next ≡ (pieces_of x at (at + n) gap (drop n rest)).1 → before ++ scan (count - i) at gap rest ≡ total
    → (before ++ (pieces_of x at (at + n) gap (drop n rest)).0) ++ scan (count - (i + 1)) (at + n) next (drop n rest) ≡ total
next_part before count i at n gap next rest x total lt some e goes so_far =
    let k : count - i ≡ suc (count - (i + 1)) = omega arith in
    let one : scan (count - i) at gap rest ≡ (pieces_of x at (at + n) gap (drop n rest)).0 ++ scan (count - (i + 1)) (at + n) next (drop n rest) =
    ap (λ m. scan m at gap rest) k ∙ scan_by (count - (i + 1)) at gap rest x n some e
    ∙ ap (λ (o : Option Gap). (pieces_of x at (at + n) gap (drop n rest)).0 ++ option_map_or (λ g. scan (count - (i + 1)) (at + n) g (drop n rest)) o []) (sym goes) in
    append_assoc before (pieces_of x at (at + n) gap (drop n rest)).0 (scan (count - (i + 1)) (at + n) next (drop n rest)) ∙ sym (ap (λ ps. before ++ ps) one) ∙ so_far

-- what is refused is the last piece
pub last_part : (before : List Piece) (count i at n : ℕ) (gap : Gap) (rest : List ℕ) (x : Lexeme) (total : List Piece) → i < count → 0 < length rest → (x, n) ≡ front rest
    → None ≡ (pieces_of x at (at + n) gap (drop n rest)).1 → before ++ scan (count - i) at gap rest ≡ total → before ++ (pieces_of x at (at + n) gap (drop n rest)).0 ≡ total
last_part before count i at n gap rest x total lt some e stops so_far =
    let k : count - i ≡ suc (count - (i + 1)) = omega arith in
    let one : scan (count - i) at gap rest ≡ (pieces_of x at (at + n) gap (drop n rest)).0 =
    ap (λ m. scan m at gap rest) k ∙ scan_by (count - (i + 1)) at gap rest x n some e
    ∙ ap (λ (o : Option Gap). (pieces_of x at (at + n) gap (drop n rest)).0 ++ option_map_or (λ g. scan (count - (i + 1)) (at + n) g (drop n rest)) o []) (sym stops)
    ∙ append-nil (pieces_of x at (at + n) gap (drop n rest)).0 in
    sym (ap (λ ps. before ++ ps) one) ∙ so_far

-- the same of what the loop holds
pub part_follows : (before new : List Piece) (count i at n : ℕ) (gap next : Gap) (rest behind : List ℕ) (x : Lexeme) (step : Option Gap) (total : List Piece) → i < count → 0 < length rest → (x, n) ≡ front rest → behind ≡ drop n rest
    → new ≡ before ++ (pieces_of x at (at + n) gap behind).0 → step ≡ (pieces_of x at (at + n) gap behind).1 → step ≡ Some next → before ++ scan (count - i) at gap rest ≡ total
    → new ++ scan (count - (i + 1)) (at + n) next behind ≡ total
part_follows before new count i at n gap next rest behind x step total lt some e cut grown told goes so_far =
    ap (λ z. z ++ scan (count - (i + 1)) (at + n) next behind) (grown ∙ ap (λ z. before ++ (pieces_of x at (at + n) gap z).0) cut)
    ∙ ap (λ z. (before ++ (pieces_of x at (at + n) gap (drop n rest)).0) ++ scan (count - (i + 1)) (at + n) next z) cut
    ∙ next_part before count i at n gap next rest x total lt some e (sym goes ∙ told ∙ ap (λ z. (pieces_of x at (at + n) gap z).1) cut) so_far

pub part_stops : (before new : List Piece) (count i at n : ℕ) (gap : Gap) (rest behind : List ℕ) (x : Lexeme) (step : Option Gap) (total : List Piece) → i < count → 0 < length rest → (x, n) ≡ front rest → behind ≡ drop n rest
    → new ≡ before ++ (pieces_of x at (at + n) gap behind).0 → step ≡ (pieces_of x at (at + n) gap behind).1 → step ≡ None → before ++ scan (count - i) at gap rest ≡ total → new ≡ total
part_stops before new count i at n gap rest behind x step total lt some e cut grown told stops so_far =
    grown ∙ ap (λ z. before ++ (pieces_of x at (at + n) gap z).0) cut
    ∙ last_part before count i at n gap rest x total lt some e (sym stops ∙ told ∙ ap (λ z. (pieces_of x at (at + n) gap z).1) cut) so_far

-- the tokens that were read before, and what is still read
abbrev pub with_raws : List Raw → Result (List Raw) LexFault → Result (List Raw) LexFault
with_raws before (Ok raws) = Ok (before ++ raws)
with_raws before (Err e) = Err e

regroup_raws : (before : List Raw) (r : Raw) (read : Result (List Raw) LexFault) → with_raws before (put_raw (Ok r) read) ≡ with_raws (before ++ r ∷ []) read
regroup_raws before r (Ok raws) = ap (λ (rs : List Raw). Ok rs) (sym (append_assoc before (r ∷ []) raws))
regroup_raws before r (Err e) = refl

pub next_raw : (before : List Raw) (p : Piece) (ps all : List Piece) (r : Raw) (total : Result (List Raw) LexFault) → all ≡ option_to_list (Some p) ++ ps → Ok r ≡ raw_of p.found p.pos p.gap
    → with_raws before (raws_in all) ≡ total → with_raws (before ++ r ∷ []) (raws_in ps) ≡ total
next_raw before p ps all r total cut e so_far =
    sym (ap (λ z. with_raws before (raws_in z)) cut ∙ ap (λ (o : Result Raw LexFault). with_raws before (put_raw o (raws_in ps))) (sym e) ∙ regroup_raws before r (raws_in ps)) ∙ so_far

pub no_raw : (before : List Raw) (p : Piece) (ps all : List Piece) (f : LexFault) (total : Result (List Raw) LexFault) → all ≡ option_to_list (Some p) ++ ps → Err f ≡ raw_of p.found p.pos p.gap
    → with_raws before (raws_in all) ≡ total → Err f ≡ total
no_raw before p ps all f total cut e so_far =
    sym (ap (λ z. with_raws before (raws_in z)) cut ∙ ap (λ (o : Result Raw LexFault). with_raws before (put_raw o (raws_in ps))) (sym e)) ∙ so_far

pub all_raws : (before : List Raw) (all : List Piece) (total : Result (List Raw) LexFault) → all ≡ [] → with_raws before (raws_in all) ≡ total → Ok before ≡ total
all_raws before all total none so_far = sym (ap (λ z. with_raws before (raws_in z)) none ∙ ap (λ (rs : List Raw). Ok rs) (append-nil before)) ∙ so_far

-- a queue that gives nothing is empty
pub none_left : {X : Type 0} (xs ys : List X) → xs ≡ ys → ys ≡ drop 1 xs → xs ≡ []
none_left [] ys h e = refl
none_left (x ∷ xs) ys h e = absurd (omega (arith, ap length (h ∙ e)))

-- what is refused
pub fails_as : {Y : Type 0} (f : LexFault) (read : Result Y LexFault) → read ≡ Err f → Fails f read
fails_as fault.Memory read h = tt
fails_as (fault.BadChar p) read h = h
fails_as (fault.Unclosed p) read h = h
fails_as (fault.NumberRange p) read h = h
