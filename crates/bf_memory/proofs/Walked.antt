-- The walks, turn by turn.
use Rattle.std.proofs.Common.{◌≡◌, ◌≢◌, ℕ, zero, suc, ◌+◌, ◌-◌, ◌*◌, ◌%◌, ◌^◌, ◌<◌, ◌≤◌, true, false, nat_eq, cond, List, [], ◌∷◌, map, refl, sym, ap, subst, ◌∙◌, arith, suc-mul, eq-eqb, ne_eqb}
use Rattle.std.proofs.lemmas.Bool.{eqb-true}
use Rattle.bf_lang.specs.declared.command.Command.{Command}
use Rattle.bf_tape.specs.Tape.{Tape, get, put, set_cell}
use Rattle.bf_tape.specs.Does.{Does}
use Rattle.bf_tape.specs.Piece.{Walks, shifted}
use Rattle.bf_tape.specs.Piece.Walks.{Over, Turn}
use Rattle.bf_tape.specs.Slots.{filled, holding, AreApart}
use Rattle.bf_tape.proofs.Slotted.{get_held, get_free, held}
use Rattle.bf_word.proofs.Written.{apart_of}
use Rattle.bf_memory.specs.Walk.{carried, ahead, zeros, flag, less_one, load_of, marked, trailed, walking, before, returning, IsAtRest, IsFree, Outward, Homeward}

-- a cell that has no mark
pub marked_other : (cells : ℕ → ℕ) (b j p : ℕ) → p % 22 ≢ 15 → marked cells b j (b + p) ≡ cells (b + p)
marked_other cells b zero p h = refl
marked_other cells b (suc j) p h = ap (λ t. cond t 1 (marked cells b j (b + p))) (ne_eqb (b + p) (b + 22 * j + 37) (λ e. h (omega arith))) ∙ marked_other cells b j p h

-- a record to which the walk did not come
marked_later : (cells : ℕ → ℕ) (b j p : ℕ) → 22 * j + 15 < p → marked cells b j (b + p) ≡ cells (b + p)
marked_later cells b zero p h = refl
marked_later cells b (suc j) p h = ap (λ t. cond t 1 (marked cells b j (b + p))) (ne_eqb (b + p) (b + 22 * j + 37) (λ e. absurd (omega arith))) ∙ marked_later cells b j p (omega arith)

pub free_trail : (s : Tape) (j : ℕ) → IsAtRest s → IsFree (trailed s j)
free_trail s j rest = record {
  left = λ c hi.
      let e : s.base + 22 * j + c ≡ s.base + (22 * j + c) = omega arith in
      let m : (22 * j + c) % 22 ≢ 15 = omega arith in
      ap (marked s.cells s.base j) e ∙ (marked_other s.cells s.base j (22 * j + c) m ∙ rest j c (omega arith));
  right = λ c lo hi.
      let e : s.base + 22 * j + c ≡ s.base + (22 * j + c) = omega arith in
      let f : s.base + (22 * j + c) ≡ s.base + (22 * (j + 1) + (c - 22)) = omega arith in
      ap (marked s.cells s.base j) e ∙ (marked_later s.cells s.base j (22 * j + c) (omega arith) ∙ (ap s.cells f ∙ rest (j + 1) (c - 22) (omega arith)));
}

-- cells of a frame, named in another
filled_shift : (ns vs : List ℕ) (b k : ℕ) (cells : ℕ → ℕ) (q : ℕ) → filled (map (λ n. k + n) ns) vs b cells q ≡ filled ns vs (b + k) cells q
filled_shift [] vs b k cells q = refl
filled_shift (n ∷ ns) [] b k cells q = refl
filled_shift (n ∷ ns) (v ∷ vs) b k cells q =
    let e : b + (k + n) ≡ b + k + n = omega arith in
    ap (λ p. cond (nat_eq q p) v (filled (map (λ n. k + n) ns) vs b cells q)) e ∙ ap (λ r. cond (nat_eq q (b + k + n)) v r) (filled_shift ns vs b k cells q)

-- cells that are 0 already
pub clear_carried : (t : Tape) → IsFree t → holding t carried zeros ≡ t
clear_carried t free =
    (λ i. holding t carried (sym (free.left 0 (omega arith)) i ∷ sym (free.left 1 (omega arith)) i ∷ sym (free.left 2 (omega arith)) i ∷ sym (free.left 10 (omega arith)) i
    ∷ sym (free.left 11 (omega arith)) i ∷ sym (free.left 12 (omega arith)) i ∷ sym (free.left 14 (omega arith)) i ∷ sym (free.left 13 (omega arith)) i ∷ []))
    ∙ held t carried

-- the tape after a turn is that of the next record
turned : (s : Tape) (j : ℕ) (vs : List ℕ) → IsAtRest s → shifted (holding (put (holding (trailed s j) carried zeros) 37 1) ahead vs) 22 true ≡ holding (trailed s (suc j)) carried vs
turned s j vs rest =
    let t : Tape = trailed s j in
    let b : ℕ = s.base + 22 * j in
    let e : b + 22 ≡ s.base + 22 * suc j = omega arith in
    ap (λ u. shifted (holding (put u 37 1) ahead vs) 22 true) (clear_carried t (free_trail s j rest))
    ∙ ((λ i. record { base = b + 22; cells = λ q. filled_shift carried vs b 22 (marked s.cells s.base (suc j)) q i; taken = s.taken; output = s.output })
    ∙ (λ i. record { base = e i; cells = filled carried vs (e i) (marked s.cells s.base (suc j)); taken = s.taken; output = s.output }))

pub carried_apart : AreApart carried
carried_apart = apart_of carried refl

-- the walk from record -1, or where it came to, as far as the address says and one record more
pub walks_out : (input : List ℕ) (body : List Command) (most : ℕ) → Outward input body most → (s : Tape) → IsAtRest s → (x y z side d j : ℕ) → d < 2 ^ 24
    → Walks input body 14 22 true (walking s d x y z 1 side j) (walking s (2 ^ 24 - 1) x y z 0 side (j + d + 1)) (suc d) ((d + 1) * (most + 1024))
walks_out input body most turn s rest x y z side zero j ld =
    let here : Tape = walking s 0 x y z 1 side j in
    let after : Tape = holding (put (holding (trailed s j) carried zeros) 37 1) ahead (load_of (2 ^ 24 - 1) x y z 0 side) in
    let there : Tape = walking s (2 ^ 24 - 1) x y z 0 side (suc j) in
    let on : get here 14 ≢ 0 = λ h. absurd (omega (arith, get_held (trailed s j) carried (load_of 0 x y z 1 side) 6 carried_apart (omega arith) refl, h)) in
    let does : Does input body 0 here 0 after most = turn (trailed s j) 0 x y z side (free_trail s j rest) ld in
    let next : shifted after 22 true ≡ there = turned s j (load_of (2 ^ 24 - 1) x y z 0 side) rest in
    let over : get there 14 ≡ 0 = get_held (trailed s (suc j)) carried (load_of (2 ^ 24 - 1) x y z 0 side) 6 carried_apart (omega arith) refl in
    let last : suc j ≡ j + 0 + 1 = omega arith in
    let count : most + 1024 + 0 ≡ (0 + 1) * (most + 1024) = omega arith in
    subst (λ c. Walks input body 14 22 true here (walking s (2 ^ 24 - 1) x y z 0 side (j + 0 + 1)) 1 c) count
    (subst (λ i. Walks input body 14 22 true here (walking s (2 ^ 24 - 1) x y z 0 side i) 1 (most + 1024 + 0)) last
    (Turn here after there 0 most 0 on does refl (λ h. cc) (subst (λ u. Walks input body 14 22 true u there 0 0) (sym next) (Over there over))))
walks_out input body most turn s rest x y z side (suc d) j ld =
    let here : Tape = walking s (suc d) x y z 1 side j in
    let less : less_one (suc d) ≡ d = omega arith in
    let after : Tape = holding (put (holding (trailed s j) carried zeros) 37 1) ahead (load_of d x y z 1 side) in
    let end : Tape = walking s (2 ^ 24 - 1) x y z 0 side (j + suc d + 1) in
    let on : get here 14 ≢ 0 = λ h. absurd (omega (arith, get_held (trailed s j) carried (load_of (suc d) x y z 1 side) 6 carried_apart (omega arith) refl, h)) in
    let up : flag (suc d) ≡ 1 = ap (λ t. cond t 0 1) (ne_eqb (suc d) 0 (omega arith)) in
    let does : Does input body 0 here 0 after most =
    subst (λ v. Does input body 0 here 0 (holding (put (holding (trailed s j) carried zeros) 37 1) ahead (load_of v x y z 1 side)) most) less
    (subst (λ g. Does input body 0 here 0 (holding (put (holding (trailed s j) carried zeros) 37 1) ahead (load_of (less_one (suc d)) x y z g side)) most) up (turn (trailed s j) (suc d) x y z side (free_trail s j rest) ld)) in
    let next : shifted after 22 true ≡ walking s d x y z 1 side (suc j) = turned s j (load_of d x y z 1 side) rest in
    let last : suc j + d + 1 ≡ j + suc d + 1 = omega arith in
    let count : most + 1024 + (d + 1) * (most + 1024) ≡ (suc d + 1) * (most + 1024) = omega (arith, suc-mul (d + 1) (most + 1024)) in
    let more : Walks input body 14 22 true (walking s d x y z 1 side (suc j)) end (suc d) ((d + 1) * (most + 1024)) =
    subst (λ i. Walks input body 14 22 true (walking s d x y z 1 side (suc j)) (walking s (2 ^ 24 - 1) x y z 0 side i) (suc d) ((d + 1) * (most + 1024))) last (walks_out input body most turn s rest x y z side d (suc j) (omega arith)) in
    subst (λ c. Walks input body 14 22 true here end (suc (suc d)) c) count
    (Turn here after end (suc d) most ((d + 1) * (most + 1024)) on does refl (λ h. cc) (subst (λ u. Walks input body 14 22 true u end (suc d) ((d + 1) * (most + 1024))) (sym next) more))

-- a mark that was made and taken away
unmarked : (cells : ℕ → ℕ) (m : ℕ) → cells m ≡ 0 → (q : ℕ) → set_cell (set_cell cells m 1) m 0 q ≡ cells q
unmarked cells m e q = elim (nat_eq q m) as (λ t. nat_eq q m ≡ t → cond t 0 (cond t 1 (cells q)) ≡ cells q) [ true ↦ λ h. sym (ap cells (eqb-true q m h) ∙ e) | false ↦ λ h. refl ] refl

mark_free : (s : Tape) (j : ℕ) → IsAtRest s → marked s.cells s.base j (s.base + 22 * j + 37) ≡ 0
mark_free s j rest =
    let e : s.base + 22 * j + 37 ≡ s.base + (22 * (j + 1) + 15) = omega arith in
    ap (marked s.cells s.base j) e ∙ (marked_later s.cells s.base j (22 * (j + 1) + 15) (omega arith) ∙ rest (j + 1) 15 (omega arith))

module _ (s : Tape) (rest : IsAtRest s) (room : 22 ≤ s.base) where
  -- the cells of the left record, and of the right one, to which nothing was brought
  before_left : (j c : ℕ) → 10 ≤ c → c < 13 → get (before s (suc j)) c ≡ 0
  before_left j c lo hi =
      let e : s.base + 22 * suc j - 22 + c ≡ s.base + (22 * j + c) = omega arith in
      let m : (22 * j + c) % 22 ≢ 15 = omega arith in
      ap (marked s.cells s.base (suc j)) e ∙ (marked_other s.cells s.base (suc j) (22 * j + c) m ∙ rest j c (omega arith))

  before_right : (j c : ℕ) → 32 ≤ c → c < 35 → get (before s (suc j)) c ≡ 0
  before_right j c lo hi =
      let e : s.base + 22 * suc j - 22 + c ≡ s.base + (22 * suc j + (c - 22)) = omega arith in
      let m : (22 * suc j + (c - 22)) % 22 ≢ 15 = omega arith in
      ap (marked s.cells s.base (suc j)) e ∙ (marked_other s.cells s.base (suc j) (22 * suc j + (c - 22)) m ∙ rest (suc j) (c - 22) (omega arith))

  clear_value : (j : ℕ) → holding (before s (suc j)) (32 ∷ 33 ∷ 34 ∷ []) (0 ∷ 0 ∷ 0 ∷ []) ≡ before s (suc j)
  clear_value j =
      (λ i. holding (before s (suc j)) (32 ∷ 33 ∷ 34 ∷ []) (sym (before_right j 32 (omega arith) (omega arith)) i ∷ sym (before_right j 33 (omega arith) (omega arith)) i ∷ sym (before_right j 34 (omega arith) (omega arith)) i ∷ []))
      ∙ held (before s (suc j)) (32 ∷ 33 ∷ 34 ∷ [])

  returned : (j x y z : ℕ) → shifted (holding (put (holding (before s (suc j)) (32 ∷ 33 ∷ 34 ∷ []) (0 ∷ 0 ∷ 0 ∷ [])) 37 0) (10 ∷ 11 ∷ 12 ∷ []) (x ∷ y ∷ z ∷ [])) 22 false ≡ returning s x y z j
  returned j x y z =
      let ns : List ℕ = 10 ∷ 11 ∷ 12 ∷ [] in
      let vs : List ℕ = x ∷ y ∷ z ∷ [] in
      let b : ℕ = s.base + 22 * j - 22 in
      let b' : ℕ = s.base + 22 * suc j - 22 in
      let m : b' + 37 ≡ s.base + 22 * j + 37 = omega arith in
      let e : b' ≡ b + 22 = omega arith in
      let back : b' - 22 ≡ b = omega arith in
      let plain : (q : ℕ) → set_cell (marked s.cells s.base (suc j)) (b' + 37) 0 q ≡ marked s.cells s.base j q = λ q.
      ap (λ p. set_cell (marked s.cells s.base (suc j)) p 0 q) m ∙ unmarked (marked s.cells s.base j) (s.base + 22 * j + 37) (mark_free s j rest) q in
      ap (λ u. shifted (holding (put u 37 0) ns vs) 22 false) (clear_value j)
      ∙ ((λ i. record { base = b' - 22; cells = filled ns vs b' (λ q. plain q i); taken = s.taken; output = s.output })
      ∙ ((λ i. record { base = back i; cells = filled ns vs (e i) (marked s.cells s.base j); taken = s.taken; output = s.output })
      ∙ (λ i. record { base = b; cells = λ q. sym (filled_shift ns vs b 22 (marked s.cells s.base j) q) i; taken = s.taken; output = s.output })))

  -- the walk home
  pub walks_home : (input : List ℕ) (body : List Command) (most : ℕ) → Homeward input body most → (x y z j : ℕ) → Walks input body 37 22 false (returning s x y z j) (returning s x y z 0) j (j * (most + 1024))
  walks_home input body most turn x y z zero =
      let none : 0 ≡ 0 * (most + 1024) = omega arith in
      let at : s.base + 22 * 0 - 22 + 37 ≡ s.base + (22 * 0 + 15) = omega arith in
      let over : get (returning s x y z 0) 37 ≡ 0 =
      get_free (before s 0) 37 (32 ∷ 33 ∷ 34 ∷ []) (x ∷ y ∷ z ∷ []) (omega arith, (omega arith, (omega arith, tt))) ∙ (ap s.cells at ∙ rest 0 15 (omega arith)) in
      subst (λ c. Walks input body 37 22 false (returning s x y z 0) (returning s x y z 0) 0 c) none (Over (returning s x y z 0) over)
  walks_home input body most turn x y z (suc j) =
      let here : Tape = returning s x y z (suc j) in
      let t : Tape = before s (suc j) in
      let after : Tape = holding (put (holding t (32 ∷ 33 ∷ 34 ∷ []) (0 ∷ 0 ∷ 0 ∷ [])) 37 0) (10 ∷ 11 ∷ 12 ∷ []) (x ∷ y ∷ z ∷ []) in
      let at : s.base + 22 * suc j - 22 + 37 ≡ s.base + 22 * j + 37 = omega arith in
      let mark : get here 37 ≡ 1 =
      get_free t 37 (32 ∷ 33 ∷ 34 ∷ []) (x ∷ y ∷ z ∷ []) (omega arith, (omega arith, (omega arith, tt)))
      ∙ ap (λ b. cond b 1 (marked s.cells s.base j (s.base + 22 * suc j - 22 + 37))) (eq-eqb (s.base + 22 * suc j - 22 + 37) (s.base + 22 * j + 37) at) in
      let count : most + 1024 + j * (most + 1024) ≡ suc j * (most + 1024) = omega (arith, suc-mul j (most + 1024)) in
      subst (λ c. Walks input body 37 22 false here (returning s x y z 0) (suc j) c) count
      (Turn here after (returning s x y z 0) j most (j * (most + 1024)) (λ h. absurd (omega (arith, mark, h))) (turn t x y z (before_left j)) refl (λ h. omega arith)
      (subst (λ u. Walks input body 37 22 false u (returning s x y z 0) j (j * (most + 1024))) (sym (returned j x y z)) (walks_home input body most turn x y z j)))
