-- A word read and written at its record.
use Rattle.std.proofs.Common.{◌≡◌, ◌≢◌, ℕ, zero, suc, ◌+◌, ◌*◌, ◌%◌, ◌^◌, ◌<◌, ◌≤◌, inl, inr, true, false, nat_eq, cond, List, [], ◌∷◌, ◌++◌, length, refl, sym, ap, subst, ◌∙◌, arith, ne_eqb}
use Rattle.std.proofs.lemmas.Bool.{eqb-true}
use Rattle.bf_lang.specs.Balance.{IsBalanced}
use Rattle.bf_tape.specs.Tape.{Tape, get, put, set_cell}
use Rattle.bf_tape.specs.Piece.{Piece, Adds, any}
use Rattle.bf_tape.specs.Slots.{holding, IsNew}
use Rattle.bf_tape.proofs.Moves.{does_then}
use Rattle.bf_tape.proofs.Turning.{get_other}
use Rattle.bf_tape.proofs.Slotted.{get_held, get_free}
use Rattle.bf_word.specs.Word.{low_byte, mid_byte, high_byte, word_in, with_word, carried_word}
use Rattle.bf_word.proofs.Bytes.{number_of_bytes}
use Rattle.bf_word.proofs.Words.{put_free, word_kept, word_set, set_again}
use Rattle.bf_word.proofs.Scratch.{put_word}
use Rattle.bf_word.proofs.Written.{put_all_held, new_of}
use Rattle.bf_memory.specs.Walk.{carried, load_of, marked, trailed, framed, at_record, IsAtRest, Fetches, Keeps}
use Rattle.bf_memory.proofs.Walked.{carried_apart, marked_other, free_trail}
use Rattle.bf_memory.proofs.Bodies.{link, link_then, at, whole}

-- the pieces at a record
pub fetch_adds : {p0 p1 p2 : Piece} (word : ℕ) → p0 ≡ record { commands = []; cell = 0 } → p2.cell ≡ 0
    → Adds p0 p1 (λ s. (word_in s 10 ≡ 0) × (get s 4 ≡ 0)) (λ input s. with_word s 10 (word_in s word)) (3 * 2 ^ 20) (3 * 2 ^ 11)
    → Adds p1 p2 any (λ input s. s) 255 255 → Fetches p2 word
fetch_adds {p2 = p2} word first home a1 a2 =
    let l = link_then (link a1) (link a2) in
    let commands : p2.commands ≡ l.added = l.commands ∙ ap (λ x. x.commands ++ l.added) first in
    record {
      home = home;
      balanced = subst (λ xs. IsBalanced xs) (sym commands) l.balanced;
      short = subst (λ xs. length xs ≤ 2 ^ 13) (sym commands) (omega (arith, l.short));
      does = λ input s is none spare.
          let t : Tape = with_word s 10 (word_in s word) in
          whole 0 input s t (2 ^ 22) l first home (does_then (2 ^ 22) (at a1 input s t is (none, spare) refl) (at a2 input t t is tt refl) (omega arith));
    }

pub keep_adds : {p0 p1 p2 p3 : Piece} (word : ℕ) → 16 ≤ word → p0 ≡ record { commands = []; cell = 0 } → p3.cell ≡ 0
    → Adds p0 p1 any (λ input s. with_word s word 0) (3 * 2 ^ 10) (3 * 2 ^ 9)
    → Adds p1 p2 (λ s. word_in s word ≡ 0) (λ input s. carried_word 10 word s) (3 * 2 ^ 18) (3 * 2 ^ 10)
    → Adds p2 p3 any (λ input s. s) 255 255 → Keeps p3 word
keep_adds {p3 = p3} word lw first home a1 a2 a3 =
    let l = link_then (link_then (link a1) (link a2)) (link a3) in
    let commands : p3.commands ≡ l.added = l.commands ∙ ap (λ x. x.commands ++ l.added) first in
    record {
      home = home;
      balanced = subst (λ xs. IsBalanced xs) (sym commands) l.balanced;
      short = subst (λ xs. length xs ≤ 2 ^ 13) (sym commands) (omega (arith, l.short));
      does = λ input s is.
          let s1 : Tape = with_word s word 0 in
          let t : Tape = with_word (with_word s word (word_in s 10)) 10 0 in
          let e : carried_word 10 word s1 ≡ t =
          ap (λ v. with_word (with_word s1 word v) 10 0) (word_kept s word 0 10 (inr (omega arith))) ∙ ap (λ u. with_word u 10 0) (set_again s word 0 (word_in s 10)) in
          whole 0 input s t (2 ^ 20) l first home
          (does_then (2 ^ 20) (does_then 789504 (at a1 input s s1 is tt refl) (at a2 input s1 t is (word_set s word 0 (omega arith)) e) (omega arith)) (at a3 input t t is tt refl) (omega arith));
    }

-- a record's words are no part of what is carried
new_carried : (c : ℕ) → 16 ≤ c → c < 22 → IsNew c carried
new_carried c lo hi = (omega arith, (omega arith, (omega arith, (omega arith, (omega arith, (omega arith, (omega arith, (omega arith, tt))))))))

module _ (s : Tape) (v sd n : ℕ) where
  abbrev seen : Tape
  seen = put (at_record (framed s 136) v sd (n + 1)) 3 1

  seen_cell : (c : ℕ) → 16 ≤ c → c < 22 → get seen c ≡ get s (158 + 22 * n + c)
  seen_cell c lo hi =
      let f : Tape = framed s 136 in
      let m : (22 * (n + 1) + c) % 22 ≢ 15 = omega arith in
      let e : f.base + 22 * (n + 1) + c ≡ f.base + (22 * (n + 1) + c) = omega arith in
      let g : f.base + (22 * (n + 1) + c) ≡ s.base + (158 + 22 * n + c) = omega arith in
      get_other (at_record f v sd (n + 1)) 3 c 1 (omega arith)
      ∙ (get_free (trailed f (n + 1)) c carried (load_of 0 (low_byte v) (mid_byte v) (high_byte v) 0 sd) (new_carried c lo hi)
      ∙ (ap (marked f.cells f.base (n + 1)) e ∙ (marked_other f.cells f.base (n + 1) (22 * (n + 1) + c) m ∙ ap s.cells g)))

  pub seen_low : word_in seen 16 ≡ word_in s (174 + 22 * n)
  seen_low =
      let a : 158 + 22 * n + 16 ≡ 174 + 22 * n = omega arith in
      let b : 158 + 22 * n + 17 ≡ 174 + 22 * n + 1 = omega arith in
      let c : 158 + 22 * n + 18 ≡ 174 + 22 * n + 2 = omega arith in
      λ i. (seen_cell 16 (omega arith) (omega arith) ∙ ap (get s) a) i + 256 * (seen_cell 17 (omega arith) (omega arith) ∙ ap (get s) b) i + 65536 * (seen_cell 18 (omega arith) (omega arith) ∙ ap (get s) c) i

  pub seen_high : word_in seen 19 ≡ word_in s (174 + 22 * n + 3)
  seen_high =
      let a : 158 + 22 * n + 19 ≡ 174 + 22 * n + 3 = omega arith in
      let b : 158 + 22 * n + 20 ≡ 174 + 22 * n + 3 + 1 = omega arith in
      let c : 158 + 22 * n + 21 ≡ 174 + 22 * n + 3 + 2 = omega arith in
      λ i. (seen_cell 19 (omega arith) (omega arith) ∙ ap (get s) a) i + 256 * (seen_cell 20 (omega arith) (omega arith) ∙ ap (get s) b) i + 65536 * (seen_cell 21 (omega arith) (omega arith) ∙ ap (get s) c) i

  seen_got : (i c : ℕ) → c ≢ 3 → get (at_record (framed s 136) v sd (n + 1)) c ≡ i → get seen c ≡ i
  seen_got i c differ e = get_other (at_record (framed s 136) v sd (n + 1)) 3 c 1 (λ x. differ (sym x)) ∙ e

  -- the value there
  pub seen_value : v < 2 ^ 24 → word_in seen 10 ≡ v
  seen_value lv =
      let vs : List ℕ = load_of 0 (low_byte v) (mid_byte v) (high_byte v) 0 sd in
      let t : Tape = trailed (framed s 136) (n + 1) in
      (λ i. seen_got (low_byte v) 10 (omega arith) (get_held t carried vs 3 carried_apart (omega arith) refl) i + 256 * seen_got (mid_byte v) 11 (omega arith) (get_held t carried vs 4 carried_apart (omega arith) refl) i
      + 65536 * seen_got (high_byte v) 12 (omega arith) (get_held t carried vs 5 carried_apart (omega arith) refl) i) ∙ number_of_bytes v lv

  pub seen_spare : IsAtRest (framed s 136) → get seen 4 ≡ 0
  seen_spare rest = seen_got 0 4 (omega arith) (get_free (trailed (framed s 136) (n + 1)) 4 carried (load_of 0 (low_byte v) (mid_byte v) (high_byte v) 0 sd) (new_of 4 carried refl) ∙ (free_trail (framed s 136) (n + 1) rest).left 4 (omega arith))

  -- another value there
  pub seen_set : (w : ℕ) → with_word seen 10 w ≡ put (at_record (framed s 136) w sd (n + 1)) 3 1
  seen_set w =
      sym (put_word (at_record (framed s 136) v sd (n + 1)) 10 w 3 1 (inl (omega arith)))
      ∙ ap (λ u. put u 3 1) (put_all_held (trailed (framed s 136) (n + 1)) carried (load_of 0 (low_byte v) (mid_byte v) (high_byte v) 0 sd) ((3, low_byte w) ∷ (4, mid_byte w) ∷ (5, high_byte w) ∷ []) carried_apart refl refl)

-- a cell that has no mark, set before the marks or afterwards
marked_set : (cells : ℕ → ℕ) (b j p v : ℕ) → p % 22 ≢ 15 → (q : ℕ) → set_cell (marked cells b j) (b + p) v q ≡ marked (set_cell cells (b + p) v) b j q
marked_set cells b zero p v h q = refl
marked_set cells b (suc j) p v h q =
    elim (nat_eq q (b + 22 * j + 37)) as (λ t. nat_eq q (b + 22 * j + 37) ≡ t → cond (nat_eq q (b + p)) v (cond t 1 (marked cells b j q)) ≡ cond t 1 (marked (set_cell cells (b + p) v) b j q)) [
      | true ↦ λ e. let is : q ≡ b + 22 * j + 37 = eqb-true q (b + 22 * j + 37) e in ap (λ t. cond t v 1) (ne_eqb q (b + p) (λ f. h (omega arith)))
      | false ↦ λ e. marked_set cells b j p v h q
    ] refl

module _ (s : Tape) (n : ℕ) where
  abbrev here : Tape → Tape
  here s = trailed (framed s 136) (n + 1)

  put_here : (s : Tape) (c d v : ℕ) → 16 ≤ c → c < 22 → d ≡ 158 + 22 * n + c → put (here s) c v ≡ here (put s d v)
  put_here s c d v lo hi e =
      let b : ℕ = s.base + 136 in
      let m : (22 * (n + 1) + c) % 22 ≢ 15 = omega arith in
      let f : b + 22 * (n + 1) + c ≡ b + (22 * (n + 1) + c) = omega arith in
      let g : b + (22 * (n + 1) + c) ≡ s.base + d = omega (arith, e) in
      (λ i. record { base = b + 22 * (n + 1); cells = set_cell (marked s.cells b (n + 1)) (f i) v; taken = s.taken; output = s.output })
      ∙ ((λ i. record { base = b + 22 * (n + 1); cells = λ q. marked_set s.cells b (n + 1) (22 * (n + 1) + c) v m q i; taken = s.taken; output = s.output })
      ∙ (λ i. record { base = b + 22 * (n + 1); cells = marked (set_cell s.cells (g i) v) b (n + 1); taken = s.taken; output = s.output }))

  word_here : (c d v : ℕ) → 16 ≤ c → c < 20 → d ≡ 158 + 22 * n + c → with_word (here s) c v ≡ here (with_word s d v)
  word_here c d v lo hi e =
      ap (λ t. put (put t (c + 1) (mid_byte v)) (c + 2) (high_byte v)) (put_here s c d (low_byte v) lo (omega arith) e)
      ∙ (ap (λ t. put t (c + 2) (high_byte v)) (put_here (put s d (low_byte v)) (c + 1) (d + 1) (mid_byte v) (omega arith) (omega arith) (omega (arith, e)))
      ∙ put_here (put (put s d (low_byte v)) (d + 1) (mid_byte v)) (c + 2) (d + 2) (high_byte v) (omega arith) (omega arith) (omega (arith, e)))

  word_record : (vs : List ℕ) (c v : ℕ) → 16 ≤ c → c < 20 → with_word (holding (here s) carried vs) c v ≡ holding (with_word (here s) c v) carried vs
  word_record vs c v lo hi =
      ap (λ t. put (put t (c + 1) (mid_byte v)) (c + 2) (high_byte v)) (put_free (here s) c (low_byte v) carried vs (new_carried c lo (omega arith)))
      ∙ (ap (λ t. put t (c + 2) (high_byte v)) (put_free (put (here s) c (low_byte v)) (c + 1) (mid_byte v) carried vs (new_carried (c + 1) (omega arith) (omega arith)))
      ∙ put_free (put (put (here s) c (low_byte v)) (c + 1) (mid_byte v)) (c + 2) (high_byte v) carried vs (new_carried (c + 2) (omega arith) (omega arith)))

  -- a word of the record set to the value, which goes
  pub seen_kept : (v sd word d : ℕ) → v < 2 ^ 24 → 16 ≤ word → word < 20 → d ≡ 158 + 22 * n + word
      → let t = put (at_record (framed s 136) v sd (n + 1)) 3 1 in with_word (with_word t word (word_in t 10)) 10 0 ≡ put (at_record (framed (with_word s d v) 136) 0 sd (n + 1)) 3 1
  seen_kept v sd word d lv lo hi e =
      let t : Tape = put (at_record (framed s 136) v sd (n + 1)) 3 1 in
      let vs : List ℕ = load_of 0 (low_byte v) (mid_byte v) (high_byte v) 0 sd in
      ap (λ x. with_word (with_word t word x) 10 0) (seen_value s v sd n lv)
      ∙ (ap (λ u. with_word u 10 0) (sym (put_word (at_record (framed s 136) v sd (n + 1)) word v 3 1 (inl (omega arith)))
      ∙ ap (λ u. put u 3 1) (word_record vs word v lo hi ∙ ap (λ u. holding u carried vs) (word_here word d v lo hi e)))
      ∙ seen_set (with_word s d v) v sd n 0)
