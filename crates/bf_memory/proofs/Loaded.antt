-- What loads and stores do.
use Rattle.std.proofs.Common.{◌≡◌, ◌≢◌, ℕ, zero, suc, ◌+◌, ◌-◌, ◌*◌, ◌^◌, ◌<◌, ◌≤◌, inl, inr, Bool, true, false, nat_lt, cond, List, [], ◌++◌, length, Result, Ok, Err, OnOk, refl, sym, ap, subst, ◌∙◌, arith}
use Rattle.std.proofs.lemmas.Bool.{ltb-true, ltb-false}
use Rattle.mach_core.specs.Rule.{IsInput}
use Rattle.bf_tape.specs.Tape.{Tape, get, put}
use Rattle.bf_tape.specs.Does.{Does}
use Rattle.bf_tape.specs.Piece.{Piece, joined, Adds, any}
use Rattle.bf_tape.proofs.Moves.{does_then, does_within}
use Rattle.bf_tape.proofs.Pieces.{by_bytes}
use Rattle.bf_tape.proofs.Turning.{get_other}
use Rattle.bf_word.specs.Word.{low_byte, mid_byte, high_byte, word_in, with_word, carried_word, IsClear}
use Rattle.bf_word.proofs.Words.{cell_kept, word_kept, word_set, set_again, bytes_of}
use Rattle.bf_word.proofs.Scratch.{put_word, swap, clear_word_in, clear_set, set_back}
use Rattle.bf_memory.specs.Row.{Memory, word_at, near, side, slot, Holds, Loads, Stores, steps_to}
use Rattle.bf_memory.specs.Walk.{framed, at_record, IsAtRest, Accesses, Fetches, Keeps}
use Rattle.bf_memory.proofs.Bodies.{Link, link, link_then, at}
use Rattle.bf_memory.proofs.Found.{seen_low, seen_high, seen_value, seen_spare, seen_set, seen_kept}

abbrev link_access : {p q high low : Piece} → Accesses p q high low → length high.commands ≤ 2 ^ 13 → length low.commands ≤ 2 ^ 13 → Link p q (2 ^ 16 + 2 ^ 14)
link_access a lh ll = record { added = a.added; commands = a.commands; short = omega (arith, a.short); balanced = a.balanced }

-- the records are free where the cells to work in are
at_rest : (m : Memory) (s : Tape) → IsClear s → Holds m s → IsAtRest (framed s 136)
at_rest m s clear holds zero c lc = let e : s.base + 136 + (22 * 0 + c) ≡ s.base + (136 + c) = omega arith in ap s.cells e ∙ clear (136 + c) (omega arith) (omega arith)
at_rest m s clear holds (suc k) c lc = let e : s.base + 136 + (22 * suc k + c) ≡ s.base + (158 + 22 * k + c) = omega arith in ap s.cells e ∙ holds.empty k c lc

-- a value of 0 beside the address
no_value : (s : Tape) → IsClear s → (n side : ℕ) → put (with_word s 136 n) 149 side ≡ put (with_word (with_word s 136 n) 146 0) 149 side
no_value s clear n side = ap (λ u. put u 149 side) (sym (swap s 136 146 n 0 (inl (omega arith)) ∙ ap (λ u. with_word u 136 n) (clear_set s clear 146 (omega arith) (omega arith))))

-- where a word is
record Stands (a n d : ℕ) (is_high : Bool) : Type 0 where
  near_is : near a ≡ n
  side_is : side a ≡ cond is_high 1 0
  slot_is : slot a ≡ d
  cell_is : d ≡ 158 + 22 * n + cond is_high 19 16
  below : n < 2 ^ 24

stands : (a : ℕ) → a < 2 ^ 24 → (n : ℕ) × (d : ℕ) × (is_high : Bool) × Stands a n d is_high
stands a la =
    elim (nat_lt a (2 ^ 23)) as (λ t. nat_lt a (2 ^ 23) ≡ t → (n : ℕ) × (d : ℕ) × (is_high : Bool) × Stands a n d is_high) [
      | true ↦ λ t. let lt : a < 2 ^ 23 = ltb-true a (2 ^ 23) t in
          (a, 174 + 22 * a, false, record { near_is = omega arith; side_is = ap (λ b. cond b 0 1) t; slot_is = ap (λ b. cond b (174 + 22 * a) (174 + 22 * (2 ^ 24 - 1 - a) + 3)) t; cell_is = omega arith; below = omega arith })
      | false ↦ λ t. let le : 2 ^ 23 ≤ a = ltb-false a (2 ^ 23) t in
          (2 ^ 24 - 1 - a, 174 + 22 * (2 ^ 24 - 1 - a) + 3, true, record { near_is = omega arith; side_is = ap (λ b. cond b 0 1) t; slot_is = ap (λ b. cond b (174 + 22 * a) (174 + 22 * (2 ^ 24 - 1 - a) + 3)) t; cell_is = omega arith; below = omega arith })
    ] refl

module _ (input : List ℕ) (is : IsInput input) (s : Tape) (n d : ℕ) (high low : Piece) where
  -- the piece for a side
  fetched : Fetches high 19 → Fetches low 16 → IsAtRest (framed s 136) → (is_high : Bool) → d ≡ 158 + 22 * n + cond is_high 19 16
      → Does input (cond is_high high.commands low.commands) 0 (put (at_record (framed s 136) 0 (cond is_high 1 0) (n + 1)) 3 1) 0 (put (at_record (framed s 136) (word_in s d) (cond is_high 1 0) (n + 1)) 3 1) (2 ^ 22)
  fetched fh fl rest true e =
      let t : Tape = put (at_record (framed s 136) 0 1 (n + 1)) 3 1 in
      let place : 174 + 22 * n + 3 ≡ d = omega (arith, e) in
      let w : word_in t 19 ≡ word_in s d = seen_high s 0 1 n ∙ ap (word_in s) place in
      subst (λ u. Does input high.commands 0 t 0 u (2 ^ 22)) (ap (λ x. with_word t 10 x) w ∙ seen_set s 0 1 n (word_in s d)) (fh.does input t is (seen_value s 0 1 n (omega arith)) (seen_spare s 0 1 n rest))
  fetched fh fl rest false e =
      let t : Tape = put (at_record (framed s 136) 0 0 (n + 1)) 3 1 in
      let place : 174 + 22 * n ≡ d = omega (arith, e) in
      let w : word_in t 16 ≡ word_in s d = seen_low s 0 0 n ∙ ap (word_in s) place in
      subst (λ u. Does input low.commands 0 t 0 u (2 ^ 22)) (ap (λ x. with_word t 10 x) w ∙ seen_set s 0 0 n (word_in s d)) (fl.does input t is (seen_value s 0 0 n (omega arith)) (seen_spare s 0 0 n rest))

  kept : Keeps high 19 → Keeps low 16 → (v : ℕ) → v < 2 ^ 24 → (is_high : Bool) → d ≡ 158 + 22 * n + cond is_high 19 16
      → Does input (cond is_high high.commands low.commands) 0 (put (at_record (framed s 136) v (cond is_high 1 0) (n + 1)) 3 1) 0 (put (at_record (framed (with_word s d v) 136) 0 (cond is_high 1 0) (n + 1)) 3 1) (2 ^ 22)
  kept kh kl v lv true e =
      let t : Tape = put (at_record (framed s 136) v 1 (n + 1)) 3 1 in
      does_within (2 ^ 22) (subst (λ u. Does input high.commands 0 t 0 u (2 ^ 20)) (seen_kept s n v 1 19 d lv (omega arith) (omega arith) e) (kh.does input t is)) (omega arith)
  kept kh kl v lv false e =
      let t : Tape = put (at_record (framed s 136) v 0 (n + 1)) 3 1 in
      does_within (2 ^ 22) (subst (λ u. Does input low.commands 0 t 0 u (2 ^ 20)) (seen_kept s n v 0 16 d lv (omega arith) (omega arith) e) (kl.does input t is)) (omega arith)

pub load_adds : {p0 p1 p2 p3 p4 high low : Piece} (addr dst : ℕ) → addr < 108 → dst < 108 → Fetches high 19 → Fetches low 16
    → Adds p0 p1 IsClear (λ input s. put (with_word s 136 (near (word_in s addr))) 149 (side (word_in s addr))) (2 ^ 23) (2 ^ 15)
    → Accesses p1 p2 high low
    → Adds p2 p3 any (λ input s. with_word s dst 0) (3 * 2 ^ 10) (3 * 2 ^ 9)
    → Adds p3 p4 (λ s. word_in s dst ≡ 0) (λ input s. carried_word 146 dst s) (3 * 2 ^ 18) (3 * 2 ^ 10)
    → Loads p0 p4 addr dst
load_adds {p0 = p0} {p1 = p1} {p2 = p2} {p4 = p4} {high = high} {low = low} addr dst la ld fh fl a1 a2 a3 a4 =
    let l = link_then (link_then (link_then (link a1) (link_access a2 fh.short fl.short)) (link a3)) (link a4) in
    record {
      added = l.added;
      commands = l.commands;
      short = omega (arith, l.short);
      balanced = l.balanced;
      does = λ input s m is clear holds. by_bytes l.balanced (λ bytes.
          let a : ℕ = word_in s addr in
          let below : a < 2 ^ 24 = (bytes_of s addr bytes).below in
          let there = stands a below in
          let n : ℕ = there.0 in
          let d : ℕ = there.1 in
          let is_high : Bool = there.2 in
          let st : Stands a n d is_high = there.3 in
          let sd : ℕ = cond is_high 1 0 in
          let v : ℕ = word_in s d in
          let lv : v < 2 ^ 24 = (bytes_of s d bytes).below in
          let rest : IsAtRest (framed s 136) = at_rest m s clear holds in
          let s1 : Tape = put (with_word (with_word s 136 n) 146 0) 149 sd in
          let s2 : Tape = with_word s 146 v in
          let s3 : Tape = with_word s2 dst 0 in
          let s4 : Tape = with_word s dst v in
          let seated : put (with_word s 136 (near a)) 149 (side a) ≡ s1 = (λ i. put (with_word s 136 (st.near_is i)) 149 (st.side_is i)) ∙ no_value s clear n sd in
          let d1 = at a1 input s s1 is clear seated in
          let d2 = a2.does input s s n 0 v (2 ^ 22) is_high is st.below rest rest (fetched input is s n d high low fh fl rest is_high st.cell_is) in
          let d3 = at a3 input s2 s3 is tt refl in
          let brought : word_in s3 146 ≡ v = word_kept s2 dst 0 146 (inl (omega arith)) ∙ word_set s 146 v lv in
          let home : carried_word 146 dst s3 ≡ s4 =
          ap (λ x. with_word (with_word s3 dst x) 146 0) brought
          ∙ (ap (λ u. with_word u 146 0) (set_again s2 dst 0 v)
          ∙ (swap s2 dst 146 v 0 (inl (omega arith)) ∙ ap (λ u. with_word u dst v) (set_back s clear 146 v (omega arith) (omega arith)))) in
          let d4 = at a4 input s3 s4 is (word_set s2 dst 0 (omega arith)) home in
          let v_is : v ≡ word_at m a = ap (word_in s) (sym st.slot_is) ∙ holds.words a below in
          subst (λ x. Does input l.added p0.cell s p4.cell (with_word s dst x) (steps_to a)) v_is
          (does_within (steps_to a) (does_then (2 ^ 23 + (2 ^ 22 * (n + 1) + 2 ^ 22 + 2 ^ 15) + 3072 + 3 * 2 ^ 18) (does_then (2 ^ 23 + (2 ^ 22 * (n + 1) + 2 ^ 22 + 2 ^ 15) + 3072) (does_then (2 ^ 23 + (2 ^ 22 * (n + 1) + 2 ^ 22 + 2 ^ 15)) d1 d2 (omega arith)) d3 (omega arith)) d4 (omega arith))
          (few n (near a) (sym st.near_is))));
    }
  where
    few : (n k : ℕ) → n ≡ k → 2 ^ 23 + (2 ^ 22 * (n + 1) + 2 ^ 22 + 2 ^ 15) + 3072 + 3 * 2 ^ 18 ≤ 3 * 2 ^ 23 * (k + 1)
    few n k e = omega (arith, e)

pub store_adds : {p0 p1 p2 p3 high low : Piece} (addr src : ℕ) → addr < 108 → src < 108 → Keeps high 19 → Keeps low 16
    → Adds p0 p1 IsClear (λ input s. put (with_word s 136 (near (word_in s addr))) 149 (side (word_in s addr))) (2 ^ 23) (2 ^ 15)
    → Adds p1 p2 (λ s. (word_in s 146 ≡ 0) × (get s 113 ≡ 0)) (λ input s. with_word s 146 (word_in s src)) (3 * 2 ^ 20) (3 * 2 ^ 11)
    → Accesses p2 p3 high low
    → Stores p0 p3 addr src
store_adds {p0 = p0} {p1 = p1} {p3 = p3} {high = high} {low = low} addr src la ls kh kl a1 a2 a3 =
    let l = link_then (link_then (link a1) (link a2)) (link_access a3 kh.short kl.short) in
    record {
      added = l.added;
      commands = l.commands;
      short = omega (arith, l.short);
      balanced = l.balanced;
      does = λ input s m is clear holds. by_bytes l.balanced (λ bytes.
          let a : ℕ = word_in s addr in
          let below : a < 2 ^ 24 = (bytes_of s addr bytes).below in
          let there = stands a below in
          let n : ℕ = there.0 in
          let d : ℕ = there.1 in
          let is_high : Bool = there.2 in
          let st : Stands a n d is_high = there.3 in
          let sd : ℕ = cond is_high 1 0 in
          let v : ℕ = word_in s src in
          let lv : v < 2 ^ 24 = (bytes_of s src bytes).below in
          let far : 174 ≤ d = beyond d n is_high st.cell_is in
          let s' : Tape = with_word s d v in
          let clear' : IsClear s' = λ c lo hi. cell_kept s d v c (inl (omega arith)) ∙ clear c lo hi in
          let rest : IsAtRest (framed s 136) = at_rest m s clear holds in
          let rest' : IsAtRest (framed s' 136) = still s d v n (cond is_high 19 16) (word_bounds is_high) st.cell_is rest in
          let s1 : Tape = put (with_word s 136 n) 149 sd in
          let s2 : Tape = put (with_word (with_word s 136 n) 146 v) 149 sd in
          let s3 : Tape = with_word s' 146 0 in
          let seated : put (with_word s 136 (near a)) 149 (side a) ≡ s1 = λ i. put (with_word s 136 (st.near_is i)) 149 (st.side_is i) in
          let d1 = at a1 input s s1 is clear seated in
          let kept_cell : (c : ℕ) → c ≢ 149 → get s1 c ≡ get (with_word s 136 n) c = λ c differ. get_other (with_word s 136 n) 149 c sd (λ e. differ (sym e)) in
          let none : word_in s1 146 ≡ 0 =
          (λ i. kept_cell 146 (omega arith) i + 256 * kept_cell 147 (omega arith) i + 65536 * kept_cell 148 (omega arith) i) ∙ (word_kept s 136 n 146 (inl (omega arith)) ∙ clear_word_in s clear 146 (omega arith) (omega arith)) in
          let spare : get s1 113 ≡ 0 = kept_cell 113 (omega arith) ∙ (cell_kept s 136 n 113 (inl (omega arith)) ∙ clear 113 (omega arith) (omega arith)) in
          let given : word_in s1 src ≡ v =
          (λ i. kept_cell src (omega arith) i + 256 * kept_cell (src + 1) (omega arith) i + 65536 * kept_cell (src + 2) (omega arith) i) ∙ word_kept s 136 n src (inr (omega arith)) in
          let d2 = at a2 input s1 s2 is (none, spare) (ap (λ x. with_word s1 146 x) given ∙ sym (put_word (with_word s 136 n) 146 v 149 sd (inr (omega arith)))) in
          let d3 = a3.does input s s' n v 0 (2 ^ 22) is_high is st.below rest rest' (kept input is s n d high low kh kl v lv is_high st.cell_is) in
          let end : s3 ≡ with_word s (slot a) v = clear_set s' clear' 146 (omega arith) (omega arith) ∙ ap (λ x. with_word s x v) (sym st.slot_is) in
          subst (λ u. Does input l.added p0.cell s p3.cell u (steps_to a)) end
          (does_within (steps_to a) (does_then (2 ^ 23 + 3 * 2 ^ 20 + (2 ^ 22 * (n + 1) + 2 ^ 22 + 2 ^ 15)) (does_then (2 ^ 23 + 3 * 2 ^ 20) d1 d2 (omega arith)) d3 (omega arith)) (few n (near a) (sym st.near_is))));
    }
  where
    few : (n k : ℕ) → n ≡ k → 2 ^ 23 + 3 * 2 ^ 20 + (2 ^ 22 * (n + 1) + 2 ^ 22 + 2 ^ 15) ≤ 3 * 2 ^ 23 * (k + 1)
    few n k e = omega (arith, e)

    beyond : (d n : ℕ) (is_high : Bool) → d ≡ 158 + 22 * n + cond is_high 19 16 → 174 ≤ d
    beyond d n true e = omega (arith, e)
    beyond d n false e = omega (arith, e)

    word_bounds : (is_high : Bool) → (16 ≤ cond is_high 19 16) × (cond is_high 19 16 < 20)
    word_bounds true = (omega arith, omega arith)
    word_bounds false = (omega arith, omega arith)

    -- the free cells of the records, after a word of one was set
    still : (s : Tape) (d v n w : ℕ) → (16 ≤ w) × (w < 20) → d ≡ 158 + 22 * n + w → IsAtRest (framed s 136) → IsAtRest (framed (with_word s d v) 136)
    still s d v n w b e rest k c lc =
        let lo : 16 ≤ w = b.0 in
        let hi : w < 20 = b.1 in
        let place : s.base + 136 + (22 * k + c) ≡ s.base + (136 + 22 * k + c) = omega arith in
        ap (with_word s d v).cells place
        ∙ (cell_out s d v (136 + 22 * k + c) (differs n k w c 0 d (omega arith) lo hi lc e) (differs n k w c 1 d (omega arith) lo hi lc e) (differs n k w c 2 d (omega arith) lo hi lc e)
        ∙ (ap s.cells (sym place) ∙ rest k c lc))
      where
        differs : (n k w c i d : ℕ) → i < 3 → 16 ≤ w → w < 20 → c < 16 → d ≡ 158 + 22 * n + w → 136 + 22 * k + c ≢ d + i
        differs n k w c i d li lo hi lc e = omega (arith, e)

        cell_out : (s : Tape) (d v c : ℕ) → c ≢ d + 0 → c ≢ d + 1 → c ≢ d + 2 → get (with_word s d v) c ≡ get s c
        cell_out s d v c x y z =
            get_other (put (put s d (low_byte v)) (d + 1) (mid_byte v)) (d + 2) c (high_byte v) (λ e. z (sym e))
            ∙ (get_other (put s d (low_byte v)) (d + 1) c (mid_byte v) (λ e. y (sym e)) ∙ get_other s d c (low_byte v) (λ e. x (let f : c ≡ d + 0 = omega (arith, e) in f)))

-- pieces made aside, and joined
pub claim_aside : {T E : Type 0} {first last : Piece} (P : Piece → Piece → Type 0) (r : Result T E) (old new : Piece) → OnOk r (new ≡ joined old last.commands last.cell) → first ≡ record { commands = []; cell = old.cell }
    → ((old first last : Piece) → first ≡ record { commands = []; cell = old.cell } → P first last → P old (joined old last.commands last.cell)) → P first last → OnOk r (P old new)
claim_aside {first = first} {last = last} P (Ok x) old new is from moves claim = subst (λ p. P old p) (sym is) (moves old first last from claim)
claim_aside P (Err x) old new is from moves claim = tt

pub accesses_aside : (high low old first last : Piece) → first ≡ record { commands = []; cell = old.cell } → Accesses first last high low → Accesses old (joined old last.commands last.cell) high low
accesses_aside high low old first last from claim =
    let a : Accesses (record { commands = []; cell = old.cell }) last high low = subst (λ p. Accesses p last high low) from claim in
    record { added = a.added; commands = ap (λ xs. old.commands ++ xs) a.commands; short = a.short; balanced = a.balanced; does = a.does }

pub loads_aside : (addr dst : ℕ) (old first last : Piece) → first ≡ record { commands = []; cell = old.cell } → Loads first last addr dst → Loads old (joined old last.commands last.cell) addr dst
loads_aside addr dst old first last from claim =
    let a : Loads (record { commands = []; cell = old.cell }) last addr dst = subst (λ p. Loads p last addr dst) from claim in
    record { added = a.added; commands = ap (λ xs. old.commands ++ xs) a.commands; short = a.short; balanced = a.balanced; does = a.does }

pub stores_aside : (addr src : ℕ) (old first last : Piece) → first ≡ record { commands = []; cell = old.cell } → Stores first last addr src → Stores old (joined old last.commands last.cell) addr src
stores_aside addr src old first last from claim =
    let a : Stores (record { commands = []; cell = old.cell }) last addr src = subst (λ p. Stores p last addr src) from claim in
    record { added = a.added; commands = ap (λ xs. old.commands ++ xs) a.commands; short = a.short; balanced = a.balanced; does = a.does }
