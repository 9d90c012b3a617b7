-- Loops of units give digits out.
use Rattle.std.proofs.Common.{◌≡◌, ℕ, suc, ◌+◌, ◌-◌, ◌*◌, ◌<◌, ◌≤◌, List, [], ◌∷◌, ◌++◌, refl, ap, ◌∙◌, arith}
use Rattle.std.proofs.Math.Nat.{mul-le-mul_left}
use Rattle.bf_lang.specs.declared.command.Command.{Command}
use Rattle.bf_lang.specs.declared.command.Command.TheVariants.{Right, Minus}
use Rattle.bf_lang.specs.Balance.{IsBalanced}
use Rattle.bf_lang.proofs.Partners.{balanced_append, balanced_loop}
use Rattle.bf_tape.specs.Tape.{Tape, set_cell}
use Rattle.bf_tape.specs.Does.{Does, loop}
use Rattle.bf_tape.specs.Code.{many}
use Rattle.bf_tape.specs.Slots.{AreApart}
use Rattle.bf_tape.proofs.Slotted.{get_held}
use Rattle.bf_tape.proofs.Moves.{does_loop, does_within}
use Rattle.bf_tape.proofs.Pieces.{does_rights, counted, minus_at, balanced_many}
use Rattle.bf_columns.specs.Deal.{units_code, row_of, Gives, Units, UnitsGive}
use Rattle.bf_columns.proofs.Lanes.{set_at}
use Rattle.bf_columns.proofs.Lanes.{set_again}
use Rattle.bf_columns.proofs.Tapes.{next, between, comes_to, goes_from}
use Rattle.bf_columns.proofs.Dealt.{same_digit}

module _ (input : List ℕ) (at : (ℕ → ℕ) → Tape) (g by cost : ℕ) (unit : ℕ → List Command) (some : 1 ≤ by) (units : Units input at g by cost unit) where
  abbrev byte : ℕ
  byte = g + by

  abbrev left_over : ℕ
  left_over = g + 2 * by

  abbrev free : ℕ
  free = g + 3 * by

  abbrev fourth : ℕ
  fourth = g + 4 * by

  abbrev cells : List ℕ
  cells = byte ∷ left_over ∷ fourth ∷ []

  distinct : AreApart cells
  distinct = ((omega arith, (omega arith, tt)), ((omega arith, tt), (tt, tt)))

  abbrev row : (ℕ → ℕ) → ℕ → ℕ → ℕ → Tape
  row u n r q = row_of (at u) g by n r q

  -- as many units as are over
  units_done : (j r q : ℕ) (u : ℕ → ℕ) → j < 3 → r < 4 → u j ≡ 0 → Does input (loop (Minus ∷ unit j)) left_over (row u 0 r q) left_over (row (set_cell u j r) 0 0 q) (r * (cost + 2) + 1)
  units_done j r q u lj lr none =
      let family : ℕ → Tape = λ k. row (set_cell u j (r - k)) 0 k q in
      let each : (k : ℕ) → k < r → Does input (Minus ∷ unit j) left_over (family (suc k)) left_over (family k) (cost + 1) = λ k lt.
      let y : ℕ → ℕ = set_cell u j (r - suc k) in
      let here : y j ≡ r - suc k = set_at u j (r - suc k) in
      let e : y j + 1 ≡ r - k = omega arith in
      let to : set_cell y j (y j + 1) ≡ set_cell u j (r - k) = ap (set_cell y j) e ∙ set_again u j (r - suc k) (r - k) in
      does_within (cost + 1) (comes_to (family k)
      (next (minus_at input (at y) cells distinct (0 ∷ suc k ∷ q ∷ []) 1 (omega arith) refl) (units.low j y 0 k q lj (omega arith)))
      (ap (λ w. row w 0 k q) to)) (omega arith) in
      let start : family r ≡ row u 0 r q = (let e : r - r ≡ 0 = omega arith in ap (λ v. row (set_cell u j v) 0 r q) e ∙ ap (λ w. row w 0 r q) (same_digit u j 0 none)) in
      let end : family 0 ≡ row (set_cell u j r) 0 0 q = (let e : r - 0 ≡ r = omega arith in ap (λ v. row (set_cell u j v) 0 0 q) e) in
      does_within (r * (cost + 2) + 1)
      (comes_to (row (set_cell u j r) 0 0 q)
      (goes_from (row u 0 r q) (does_loop (balanced_append (Minus ∷ []) (unit j) refl (units.balanced j))
      (counted input (Minus ∷ unit j) left_over (cost + 1) r family (λ k. get_held (at (set_cell u j (r - k))) cells (0 ∷ k ∷ q ∷ []) 1 distinct (omega arith) refl) each r (omega arith))) start) end) (omega arith)

  balanced_units : (j : ℕ) → IsBalanced (loop (Minus ∷ unit j) ++ many by Right)
  balanced_units j = balanced_append (loop (Minus ∷ unit j)) (many by Right) (balanced_loop (Minus ∷ unit j) (balanced_append (Minus ∷ []) (unit j) refl (units.balanced j))) (balanced_many by Right refl)

  top_done : (n : ℕ) (u : ℕ → ℕ) → n < 4 → u 3 ≡ 0 → Does input (loop (Minus ∷ unit 3)) byte (row u n 0 0) byte (row (set_cell u 3 n) 0 0 0) (3 * cost + 7)
  top_done n u ln none =
      let family : ℕ → Tape = λ k. row (set_cell u 3 (n - k)) k 0 0 in
      let each : (k : ℕ) → k < n → Does input (Minus ∷ unit 3) byte (family (suc k)) byte (family k) (cost + 1) = λ k lt.
      let y : ℕ → ℕ = set_cell u 3 (n - suc k) in
      let here : y 3 ≡ n - suc k = set_at u 3 (n - suc k) in
      let e : y 3 + 1 ≡ n - k = omega arith in
      let to : set_cell y 3 (y 3 + 1) ≡ set_cell u 3 (n - k) = ap (set_cell y 3) e ∙ set_again u 3 (n - suc k) (n - k) in
      does_within (cost + 1) (comes_to (family k)
      (next (minus_at input (at y) cells distinct (suc k ∷ 0 ∷ 0 ∷ []) 0 (omega arith) refl) (units.top y k 0 0 (omega arith)))
      (ap (λ w. row w k 0 0) to)) (omega arith) in
      let start : family n ≡ row u n 0 0 = (let e : n - n ≡ 0 = omega arith in ap (λ v. row (set_cell u 3 v) n 0 0) e ∙ ap (λ w. row w n 0 0) (same_digit u 3 0 none)) in
      let end : family 0 ≡ row (set_cell u 3 n) 0 0 0 = (let e : n - 0 ≡ n = omega arith in ap (λ v. row (set_cell u 3 v) 0 0 0) e) in
      let le : (cost + 2) * n ≤ (cost + 2) * 3 = mul-le-mul_left (cost + 2) (omega arith) in
      does_within (3 * cost + 7)
      (comes_to (row (set_cell u 3 n) 0 0 0)
      (goes_from (row u n 0 0) (does_loop (balanced_append (Minus ∷ []) (unit 3) refl (units.balanced 3))
      (counted input (Minus ∷ unit 3) byte (cost + 1) n family (λ k. get_held (at (set_cell u 3 (n - k))) cells (k ∷ 0 ∷ 0 ∷ []) 0 distinct (omega arith) refl) each n (omega arith))) start) end) (omega arith)

  pub units_gives : Gives input at g by (3 * cost + 7 + by) (λ j. units_code by (unit j)) (loop (Minus ∷ unit 3))
  units_gives = record {
    balanced = balanced_units;
    guard = units.guard;
    free = units.free;
    low = λ j u r q lj some_over lr none.
        let e : left_over + by ≡ free = omega arith in
        let to : Tape = row (set_cell u j r) 0 0 q in
        let le : (cost + 2) * r ≤ (cost + 2) * 3 = mul-le-mul_left (cost + 2) (omega arith) in
        does_within (3 * cost + 7 + by) (next (units_done j r q u lj lr none) (between left_over free (does_rights input by left_over to) refl e)) (omega arith);
    top = λ u n ln none. does_within (3 * cost + 7 + by) (top_done n u ln none) (omega arith);
  }

pub units_give : UnitsGive
units_give input at g by cost unit some units = units_gives input at g by cost unit some units
