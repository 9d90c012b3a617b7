-- The same cells under a frame further on.
use Rattle.std.proofs.Common.{◌≡◌, ℕ, ◌+◌, ◌-◌, ◌*◌, ◌≤◌, List, [], ◌∷◌, refl, sym, ap, ◌∙◌, arith}
use Rattle.bf_tape.specs.Tape.{Tape, get, put, set_cell}
use Rattle.bf_tape.specs.Piece.{renamed}
use Rattle.bf_tape.specs.Slots.{holding}
use Rattle.bf_tape.proofs.Slotted.{held}
use Rattle.bf_word.specs.Word.{low_byte, mid_byte, high_byte, with_word}
use Rattle.bf_word.proofs.Written.{put_all_held}
use Rattle.bf_memory.specs.Walk.{carried, load_of, trailed, walking, returning, framed, at_record, IsAtRest, IsFree}
use Rattle.bf_memory.proofs.Walked.{carried_apart, free_trail}

-- a tape with the frame at a place
abbrev pub based : Tape → ℕ → Tape
based s b = record { base = b; cells = s.cells; taken = s.taken; output = s.output }

put_based : (s : Tape) (b c d v : ℕ) → s.base + c ≡ b + d → based (put s c v) b ≡ put (based s b) d v
put_based s b c d v e = ap (λ p. record { base = b; cells = set_cell s.cells p v; taken = s.taken; output = s.output }) e

pub put_framed : (s : Tape) (k c d v : ℕ) → c ≡ k + d → framed (put s c v) k ≡ put (framed s k) d v
put_framed s k c d v e = put_based s (s.base + k) c d v (ap (λ x. s.base + x) e ∙ omega arith)

pub word_framed : (s : Tape) (k c d v : ℕ) → c ≡ k + d → framed (with_word s c v) k ≡ with_word (framed s k) d v
word_framed s k c d v e =
    put_framed (put (put s c (low_byte v)) (c + 1) (mid_byte v)) k (c + 2) (d + 2) (high_byte v) (omega (arith, e))
    ∙ (ap (λ t. put t (d + 2) (high_byte v)) (put_framed (put s c (low_byte v)) k (c + 1) (d + 1) (mid_byte v) (omega (arith, e)))
    ∙ ap (λ t. put (put t (d + 1) (mid_byte v)) (d + 2) (high_byte v)) (put_framed s k c d (low_byte v) e))

-- where the walk begins
module _ (s : Tape) (n v side : ℕ) where
  trailed_none : trailed (framed s 136) 0 ≡ framed s 136
  trailed_none = let e : s.base + 136 + 22 * 0 ≡ s.base + 136 = omega arith in λ i. based s (e i)

  pub begins_walk : renamed (put (put (with_word (with_word s 136 n) 146 v) 149 side) 150 1) 150 14 ≡ walking (framed s 136) n (low_byte v) (mid_byte v) (high_byte v) 1 side 0
  begins_walk =
      let t : Tape = put (put (with_word (with_word s 136 n) 146 v) 149 side) 150 1 in
      let e : s.base + 150 - 14 ≡ s.base + 136 = omega arith in
      let f : Tape = framed s 136 in
      (λ i. based t (e i))
      ∙ (put_framed (put (with_word (with_word s 136 n) 146 v) 149 side) 136 150 14 1 refl
      ∙ (ap (λ u. put u 14 1) (put_framed (with_word (with_word s 136 n) 146 v) 136 149 13 side refl)
      ∙ (ap (λ u. put (put u 13 side) 14 1) (word_framed (with_word s 136 n) 136 146 10 v refl)
      ∙ (ap (λ u. put (put (with_word u 10 v) 13 side) 14 1) (word_framed s 136 136 0 n refl)
      ∙ (ap (λ u. put (put (with_word (with_word u 0 n) 10 v) 13 side) 14 1) (sym (held f carried))
      ∙ (put_all_held f carried (get f 0 ∷ get f 1 ∷ get f 2 ∷ get f 10 ∷ get f 11 ∷ get f 12 ∷ get f 14 ∷ get f 13 ∷ [])
      ((0, low_byte n) ∷ (1, mid_byte n) ∷ (2, high_byte n) ∷ (3, low_byte v) ∷ (4, mid_byte v) ∷ (5, high_byte v) ∷ (7, side) ∷ (6, 1) ∷ []) carried_apart refl refl
      ∙ ap (λ u. holding u carried (load_of n (low_byte v) (mid_byte v) (high_byte v) 1 side)) (sym trailed_none)))))))

-- where the walk home begins
module _ (s : Tape) (rest : IsAtRest s) (v j : ℕ) where
  abbrev x : ℕ
  x = low_byte v

  abbrev y : ℕ
  y = mid_byte v

  abbrev z : ℕ
  z = high_byte v

  pub begins_home : 22 ≤ s.base → renamed (at_record s v 0 j) 3 25 ≡ returning s x y z j
  begins_home room =
      let t : Tape = trailed s j in
      let b : ℕ = s.base + 22 * j in
      let free : IsFree t = free_trail s j rest in
      let e : b + 3 - 25 ≡ b - 22 = omega arith in
      let g : b - 22 + 22 ≡ b = omega arith in
      let at : (c : ℕ) → b + c ≡ b - 22 + (22 + c) = λ c. omega arith in
      -- the cells that are not of the value are 0
      let only : at_record s v 0 j ≡ put (put (put t 12 z) 11 y) 10 x =
      (λ i. holding t carried (sym (free.left 0 (omega arith)) i ∷ sym (free.left 1 (omega arith)) i ∷ sym (free.left 2 (omega arith)) i ∷ x ∷ y ∷ z ∷ sym (free.left 14 (omega arith)) i ∷ sym (free.left 13 (omega arith)) i ∷ []))
      ∙ sym (ap (λ u. put (put (put u 12 z) 11 y) 10 x) (sym (held t carried))
      ∙ put_all_held t carried (get t 0 ∷ get t 1 ∷ get t 2 ∷ get t 10 ∷ get t 11 ∷ get t 12 ∷ get t 14 ∷ get t 13 ∷ []) ((5, z) ∷ (4, y) ∷ (3, x) ∷ []) carried_apart refl refl) in
      ap (λ u. renamed u 3 25) only
      ∙ ((λ i. based (put (put (put t 12 z) 11 y) 10 x) (e i))
      ∙ (λ i. record { base = b - 22; cells = set_cell (set_cell (set_cell t.cells (at 12 i) z) (at 11 i) y) (at 10 i) x; taken = s.taken; output = s.output }))

-- and where it ends
pub ends_home : (s : Tape) (v : ℕ) → renamed (returning (framed s 136) (low_byte v) (mid_byte v) (high_byte v) 0) 37 151 ≡ with_word s 146 v
ends_home s v =
    let x : ℕ = low_byte v in
    let y : ℕ = mid_byte v in
    let z : ℕ = high_byte v in
    let f : Tape = framed s 136 in
    let b : ℕ = s.base + 136 + 22 * 0 - 22 in
    let e : b + 37 - 151 ≡ s.base = omega arith in
    let at : (c : ℕ) → b + (32 + c) ≡ s.base + (146 + c) = λ c. omega arith in
    (λ i. based (returning f x y z 0) (e i))
    ∙ ((λ i. record { base = s.base; cells = set_cell (set_cell (set_cell s.cells (at 2 i) z) (at 1 i) y) (at 0 i) x; taken = s.taken; output = s.output })
    ∙ sorted)
  where
    sorted : put (put (put s 148 (high_byte v)) 147 (mid_byte v)) 146 (low_byte v) ≡ with_word s 146 v
    sorted =
        let x : ℕ = low_byte v in
        let y : ℕ = mid_byte v in
        let z : ℕ = high_byte v in
        let ns : List ℕ = 146 ∷ 147 ∷ 148 ∷ [] in
        let vs : List ℕ = get s 146 ∷ get s 147 ∷ get s 148 ∷ [] in
        ap (λ u. put (put (put u 148 z) 147 y) 146 x) (sym (held s ns))
        ∙ (put_all_held s ns vs ((2, z) ∷ (1, y) ∷ (0, x) ∷ []) ((omega arith, (omega arith, tt)), ((omega arith, tt), (tt, tt))) refl refl
        ∙ sym (ap (λ u. with_word u 146 v) (sym (held s ns)) ∙ put_all_held s ns vs ((0, x) ∷ (1, y) ∷ (2, z) ∷ []) ((omega arith, (omega arith, tt)), ((omega arith, tt), (tt, tt))) refl refl))
