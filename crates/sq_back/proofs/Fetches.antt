-- Words that are fetched from memory and stored there, and the way to the block of a number.
use Rattle.std.proofs.Common.{◌≡◌, ℕ, ◌+◌, ◌^◌, ◌<◌, ◌≤◌, true, false, cond, refl, sym, ap, nat_lt, arith}
use Rattle.std.specs.Prelude.{ℤ, pos, negsuc, ◌-ℤ◌}
use Rattle.std.proofs.lemmas.Int.{ints}
use Rattle.std.proofs.lemmas.Bool.{ltb-true, ltb-false}
use Rattle.eir_core.specs.Memory.{Memory, word_at, with_word}
use Rattle.sq_back.specs.declared.line.Line.{Line}
use Rattle.sq_back.specs.Code.{goal, nowhere, row_place}
use Rattle.sq_back.specs.Related.{is_working}
use Rattle.sq_back.proofs.CellLemmas.{Small}
use Rattle.sq_back.proofs.Bank.{Work, Other, LoadFrom, LoadNext, StoreFrom, StoreTo, StoreNext, GotoNext, Bank, Frame, put}
use Rattle.sq_back.proofs.Steps.{state, There, head_line, tail_lines, Has, Row, Goes, Comes, goes_then, goes_as, fixed, slot_has, zero_has, word_has, row, zero_on, slot_on, slot_jump, slot_fall, word_on, slot_clear, zero_clear, zero_go}
use Rattle.sq_back.proofs.Moves.{minus, small_pos, small_minus, above_zero, at_most_zero, minus_minus, Ready, minus_one_has, memory_has, count_has, rows_has}

module _ (f : Frame) where
  -- lines of which one number is written first
  from_row : (z : ℤ) (b : Bank) (m : Memory) (i : ℕ) (x : ℤ) (line : Line) → There f i line → Has f z b m i x → is_working (i + 1) ≡ false → is_working (i + 2) ≡ false → Row f z b m i x line.to line.next
  from_row z b m i x line t from g h = record {
    near = omega (arith, t.within, f.near);
    from = from;
    to = fixed f z b m (i + 1) line.to (omega (arith, t.within)) g t.to;
    next = fixed f z b m (i + 2) line.next (omega (arith, t.within)) h t.next;
  }

  to_row : (z : ℤ) (b : Bank) (m : Memory) (i : ℕ) (x : ℤ) (line : Line) → There f i line → is_working i ≡ false → Has f z b m (i + 1) x → is_working (i + 2) ≡ false → Row f z b m i line.from x line.next
  to_row z b m i x line t e to h = record {
    near = omega (arith, t.within, f.near);
    from = fixed f z b m i line.from (omega (arith, t.within)) e t.from;
    to = to;
    next = fixed f z b m (i + 2) line.next (omega (arith, t.within)) h t.next;
  }

  next_row : (z : ℤ) (b : Bank) (m : Memory) (i : ℕ) (x : ℤ) (line : Line) → There f i line → is_working i ≡ false → is_working (i + 1) ≡ false → Has f z b m (i + 2) x → Row f z b m i line.from line.to x
  next_row z b m i x line t e g next = record {
    near = omega (arith, t.within, f.near);
    from = fixed f z b m i line.from (omega (arith, t.within)) e t.from;
    to = fixed f z b m (i + 1) line.to (omega (arith, t.within)) g t.to;
    next = next;
  }

  module _ (n : ℕ) (ready : Ready f n) where
    abbrev o : ℤ
    o = pos 0

    -- the word at the address in the work cell
    pub loads : (b : Bank) (m : Memory) (a : ℕ) (place : ℤ) → a < 2 ^ 24 → word_at m a < 2 ^ 24
        → Goes f (state (pos 21) (pos 0) (put (put b Work (pos a)) LoadNext place) m) (state place (pos 0) (put (put (put b Work (pos (word_at m a))) LoadNext place) LoadFrom (pos (f.start + a))) m) 9
    loads b m a place few few' =
        let w = word_at m a in
        let c0 = ready.load in
        let c1 = tail_lines c0 in
        let c2 = tail_lines c1 in
        let c3 = tail_lines c2 in
        let c4 = tail_lines c3 in
        let c5 = tail_lines c4 in
        let c6 = tail_lines c5 in
        let c7 = tail_lines c6 in
        let c8 = tail_lines c7 in
        let z1 : ℤ = minus f.start in
        let z2 : ℤ = z1 -ℤ pos a in
        let q : ℤ = pos (f.start + a) in
        let b0 = put (put b Work (pos a)) LoadNext place in
        let b1 = put b0 LoadFrom o in
        let b2 = put b0 LoadFrom q in
        let b3 = put b2 Work o in
        let b4 = put b2 Work (pos w) in
        let near = f.near in
        let small : Small z2 = record { low = omega (arith, ints); high = omega (arith, ints) } in
        let joined : o -ℤ z2 ≡ q = omega (arith, ints) in
        let s0 = slot_clear f o b0 m 21 LoadFrom (row f o b0 m 21 _ (head_line c0) refl refl refl) in
        let s1 = zero_on f o b1 m 24 16 (pos f.start) z1 (row f o b1 m 24 _ (head_line c1) refl refl refl) (memory_has f n ready o b1 m) refl (small_minus f.start (omega arith)) in
        let s2 = zero_on f z1 b1 m 27 4 (pos a) z2 (row f z1 b1 m 27 _ (head_line c2) refl refl refl) (slot_has f z1 b1 m Work) refl small in
        let s3 = slot_on f z2 b1 m 30 3 LoadFrom z2 q (row f z2 b1 m 30 _ (head_line c3) refl refl refl) (zero_has f z2 b1 m) joined (small_pos (f.start + a) (omega arith)) in
        let s4 = zero_clear f z2 b2 m 33 (row f z2 b2 m 33 _ (head_line c4) refl refl refl) in
        let s5 = slot_clear f o b2 m 36 Work (row f o b2 m 36 _ (head_line c5) refl refl refl) in
        let s6 = zero_on f o b3 m 39 (f.start + a) (pos w) (minus w) (from_row o b3 m 39 q _ (head_line c6) (slot_has f o b3 m LoadFrom) refl refl) (word_has f o b3 m a) refl (small_minus w (omega arith)) in
        let s7 = slot_on f (minus w) b3 m 42 3 Work (minus w) (pos w) (row f (minus w) b3 m 42 _ (head_line c7) refl refl refl) (zero_has f (minus w) b3 m) (minus_minus o w refl) (small_pos w (omega arith)) in
        let s8 = zero_go f (minus w) b4 m 45 place (next_row (minus w) b4 m 45 place _ (head_line c8) refl refl (slot_has f (minus w) b4 m LoadNext)) in
        goes_then s0 (goes_then s1 (goes_then s2 (goes_then s3 (goes_then s4 (goes_then s5 (goes_then s6 (goes_then s7 s8)))))))

    -- the word in the other cell becomes that at the address in the work cell
    pub stores : (b : Bank) (m : Memory) (a w : ℕ) (place : ℤ) → a < 2 ^ 24 → word_at m a < 2 ^ 24 → w < 2 ^ 24
        → Goes f (state (pos 48) (pos 0) (put (put (put b Work (pos a)) Other (pos w)) StoreNext place) m)
        (state place (pos 0) (put (put (put (put (put b Work (pos (word_at m a) -ℤ pos w)) Other (pos w)) StoreNext place) StoreFrom (pos (f.start + a))) StoreTo (pos (f.start + a))) (with_word m a w)) 14
    stores b m a w place few few' few'' =
        let u = word_at m a in
        let c0 = ready.store in
        let c1 = tail_lines c0 in
        let c2 = tail_lines c1 in
        let c3 = tail_lines c2 in
        let c4 = tail_lines c3 in
        let c5 = tail_lines c4 in
        let c6 = tail_lines c5 in
        let c7 = tail_lines c6 in
        let c8 = tail_lines c7 in
        let c9 = tail_lines c8 in
        let c10 = tail_lines c9 in
        let c11 = tail_lines c10 in
        let c12 = tail_lines c11 in
        let c13 = tail_lines c12 in
        let z1 : ℤ = minus f.start in
        let z2 : ℤ = z1 -ℤ pos a in
        let q : ℤ = pos (f.start + a) in
        let d : ℤ = pos u -ℤ pos w in
        let b0 = put (put (put b Work (pos a)) Other (pos w)) StoreNext place in
        let b1 = put b0 StoreFrom o in
        let b2 = put b1 StoreTo o in
        let b3 = put b2 StoreFrom q in
        let b4 = put b3 StoreTo q in
        let b5 = put b4 Work o in
        let b6 = put b4 Work (pos u) in
        let b7 = put b4 Work d in
        let m' = with_word m a w in
        let near = f.near in
        let small : Small z2 = record { low = omega (arith, ints); high = omega (arith, ints) } in
        let small' : Small d = record { low = omega (arith, ints); high = omega (arith, ints) } in
        let joined : o -ℤ z2 ≡ q = omega (arith, ints) in
        let back : pos u -ℤ d ≡ pos w = omega (arith, ints) in
        let address = small_pos (f.start + a) (omega arith) in
        let s0 = slot_clear f o b0 m 48 StoreFrom (row f o b0 m 48 _ (head_line c0) refl refl refl) in
        let s1 = slot_clear f o b1 m 51 StoreTo (row f o b1 m 51 _ (head_line c1) refl refl refl) in
        let s2 = zero_on f o b2 m 54 16 (pos f.start) z1 (row f o b2 m 54 _ (head_line c2) refl refl refl) (memory_has f n ready o b2 m) refl (small_minus f.start (omega arith)) in
        let s3 = zero_on f z1 b2 m 57 4 (pos a) z2 (row f z1 b2 m 57 _ (head_line c3) refl refl refl) (slot_has f z1 b2 m Work) refl small in
        let s4 = slot_on f z2 b2 m 60 3 StoreFrom z2 q (row f z2 b2 m 60 _ (head_line c4) refl refl refl) (zero_has f z2 b2 m) joined address in
        let s5 = slot_on f z2 b3 m 63 3 StoreTo z2 q (row f z2 b3 m 63 _ (head_line c5) refl refl refl) (zero_has f z2 b3 m) joined address in
        let s6 = zero_clear f z2 b4 m 66 (row f z2 b4 m 66 _ (head_line c6) refl refl refl) in
        let s7 = slot_clear f o b4 m 69 Work (row f o b4 m 69 _ (head_line c7) refl refl refl) in
        let s8 = zero_on f o b5 m 72 (f.start + a) (pos u) (minus u) (from_row o b5 m 72 q _ (head_line c8) (slot_has f o b5 m StoreFrom) refl refl) (word_has f o b5 m a) refl (small_minus u (omega arith)) in
        let s9 = slot_on f (minus u) b5 m 75 3 Work (minus u) (pos u) (row f (minus u) b5 m 75 _ (head_line c9) refl refl refl) (zero_has f (minus u) b5 m) (minus_minus o u refl) (small_pos u (omega arith)) in
        let s10 = zero_clear f (minus u) b6 m 78 (row f (minus u) b6 m 78 _ (head_line c10) refl refl refl) in
        let s11 = slot_on f o b6 m 81 5 Work (pos w) d (row f o b6 m 81 _ (head_line c11) refl refl refl) (slot_has f o b6 m Other) refl small' in
        let s12 = word_on f o b7 m 84 4 a d w (to_row o b7 m 84 q _ (head_line c12) refl (slot_has f o b7 m StoreTo) refl) (slot_has f o b7 m Work) back (small_pos w (omega arith)) in
        let s13 = zero_go f o b7 m' 87 place (next_row o b7 m' 87 place _ (head_line c13) refl refl (slot_has f o b7 m' StoreNext)) in
        goes_then s0 (goes_then s1 (goes_then s2 (goes_then s3 (goes_then s4 (goes_then s5 (goes_then s6 (goes_then s7 (goes_then s8 (goes_then s9 (goes_then s10 (goes_then s11 (goes_then s12 s13))))))))))))

    -- a way to the block of a number, or to the end, with the register in hand as it was
    pub record Found (b : Bank) (m : Memory) (k : ℕ) : Type 0 where
      pub bank : Bank
      pub hand : bank.hand ≡ b.hand
      pub way : Comes f (state (pos 90) (pos 0) (put b Work (pos k)) m) (state (goal n k) (pos 0) bank m) 13

    pub finds : (b : Bank) (m : Memory) (k : ℕ) → k < 2 ^ 24 → Found b m k
    finds b m k few =
        let c0 = ready.find in
        let c1 = tail_lines c0 in
        let c2 = tail_lines c1 in
        let c3 = tail_lines c2 in
        let c4 = tail_lines c3 in
        let c5 = tail_lines c4 in
        let c6 = tail_lines c5 in
        let c7 = tail_lines c6 in
        let c8 = tail_lines c7 in
        let c9 = tail_lines c8 in
        let c10 = tail_lines c9 in
        let c11 = tail_lines c10 in
        let c12 = tail_lines c11 in
        let c13 = tail_lines c12 in
        let few' = ready.few in
        let b0 = put b Work (pos k) in
        let b1 = put b0 Other o in
        let b2 = put b0 Other (pos k) in
        let d : ℤ = pos k -ℤ pos n in
        let b3 = put b0 Other d in
        let v : ℤ = d -ℤ negsuc 0 in
        let b4 = put b0 Other v in
        let b5 = put b4 GotoNext o in
        let z1 : ℤ = minus 132 in
        let z2 : ℤ = z1 -ℤ pos k in
        let z3 : ℤ = z2 -ℤ pos k in
        let z4 : ℤ = z3 -ℤ pos k in
        let q : ℤ = pos (row_place k) in
        let b6 = put b4 GotoNext q in
        let small : Small d = record { low = omega (arith, ints); high = omega (arith, ints) } in
        let small' : Small v = record { low = omega (arith, ints); high = omega (arith, ints) } in
        let small2 : Small z2 = record { low = omega (arith, ints); high = omega (arith, ints) } in
        let small3 : Small z3 = record { low = omega (arith, ints); high = omega (arith, ints) } in
        let small4 : Small z4 = record { low = omega (arith, ints); high = omega (arith, ints) } in
        let joined : o -ℤ z4 ≡ q = omega (arith, ints) in
        let s0 = slot_clear f o b0 m 90 Other (row f o b0 m 90 _ (head_line c0) refl refl refl) in
        let s1 = zero_on f o b1 m 93 4 (pos k) (minus k) (row f o b1 m 93 _ (head_line c1) refl refl refl) (slot_has f o b1 m Work) refl (small_minus k (omega arith)) in
        let s2 = slot_on f (minus k) b1 m 96 3 Other (minus k) (pos k) (row f (minus k) b1 m 96 _ (head_line c2) refl refl refl) (zero_has f (minus k) b1 m) (minus_minus o k refl) (small_pos k (omega arith)) in
        let s3 = zero_clear f (minus k) b2 m 99 (row f (minus k) b2 m 99 _ (head_line c3) refl refl refl) in
        let s4 = slot_on f o b2 m 102 17 Other (pos n) d (row f o b2 m 102 _ (head_line c4) refl refl refl) (count_has f n ready o b2 m) refl small in
        let r5 = row f o b3 m 105 _ (head_line c5) refl refl refl in
        let first = goes_then s0 (goes_then s1 (goes_then s2 (goes_then s3 s4))) in
        elim (nat_lt k n) as (λ t. nat_lt k n ≡ t → Found b m k) [
          | true ↦ λ e.
              let lt : k < n = ltb-true _ _ e in
              let s5 = slot_jump f o b3 m 105 13 Other (pos 111) (negsuc 0) v r5 (minus_one_has f n ready o b3 m) refl small' (at_most_zero v (omega (arith, ints))) in
              let s7 = slot_clear f o b4 m 111 GotoNext (row f o b4 m 111 _ (head_line c7) refl refl refl) in
              let s8 = zero_on f o b5 m 114 18 (pos 132) z1 (row f o b5 m 114 _ (head_line c8) refl refl refl) (rows_has f n ready o b5 m) refl (small_minus 132 (omega arith)) in
              let s9 = zero_on f z1 b5 m 117 4 (pos k) z2 (row f z1 b5 m 117 _ (head_line c9) refl refl refl) (slot_has f z1 b5 m Work) refl small2 in
              let s10 = zero_on f z2 b5 m 120 4 (pos k) z3 (row f z2 b5 m 120 _ (head_line c10) refl refl refl) (slot_has f z2 b5 m Work) refl small3 in
              let s11 = zero_on f z3 b5 m 123 4 (pos k) z4 (row f z3 b5 m 123 _ (head_line c11) refl refl refl) (slot_has f z3 b5 m Work) refl small4 in
              let s12 = slot_on f z4 b5 m 126 3 GotoNext z4 q (row f z4 b5 m 126 _ (head_line c12) refl refl refl) (zero_has f z4 b5 m) joined (small_pos (row_place k) (omega arith)) in
              let s13 = zero_go f z4 b6 m 129 q (next_row z4 b6 m 129 q _ (head_line c13) refl refl (slot_has f z4 b6 m GotoNext)) in
              let all = goes_then first (goes_then s5 (goes_then s7 (goes_then s8 (goes_then s9 (goes_then s10 (goes_then s11 (goes_then s12 s13))))))) in
              let here : q ≡ goal n k = sym (ap (λ t. cond t q nowhere) e) in
              record { bank = b6; hand = refl; way = record { count = 13; some = omega arith; few = omega arith; goes = goes_as _ (state (goal n k) o b6 m) all (ap (λ g. state g o b6 m) here) } }
          | false ↦ λ e.
              let ge : n ≤ k = ltb-false _ _ e in
              let s5 = slot_fall f o b3 m 105 13 Other (pos 111) (negsuc 0) v r5 (minus_one_has f n ready o b3 m) refl small' (above_zero v (omega (arith, ints))) in
              let s6 = zero_go f o b4 m 108 nowhere (row f o b4 m 108 _ (head_line c6) refl refl refl) in
              let here : nowhere ≡ goal n k = sym (ap (λ t. cond t q nowhere) e) in
              record { bank = b4; hand = refl; way = record { count = 7; some = omega arith; few = omega arith; goes = goes_as _ (state (goal n k) o b4 m) (goes_then first (goes_then s5 s6)) (ap (λ g. state g o b4 m) here) } }
        ] refl
