-- Trips that give a far byte out.
use Rattle.std.proofs.Common.{◌≡◌, ℕ, zero, suc, ◌+◌, ◌-◌, ◌*◌, ◌%◌, ◌^◌, ◌<◌, ◌≤◌, List, [], ◌∷◌, ◌++◌, refl, sym, ap, subst, ◌∙◌, arith}
use Rattle.bf_lang.specs.declared.command.Command.{Command}
use Rattle.bf_lang.specs.declared.command.Command.TheVariants.{Right, Left, Plus}
use Rattle.bf_lang.specs.Balance.{IsBalanced}
use Rattle.bf_lang.specs.Cells.{raised}
use Rattle.bf_lang.proofs.Partners.{balanced_append}
use Rattle.bf_tape.specs.Tape.{Tape, get, put, set_cell}
use Rattle.bf_tape.specs.Does.{Does}
use Rattle.bf_tape.specs.Code.{many, goto_code}
use Rattle.bf_tape.specs.Slots.{holding, AreApart, IsNew}
use Rattle.bf_tape.proofs.Slotted.{get_held, put_held, get_free}
use Rattle.bf_tape.proofs.Moves.{does_plus, does_none, does_within}
use Rattle.bf_tape.proofs.Pieces.{does_rights, does_lefts, does_goto, plus_at, balanced_many, balanced_goto}
use Rattle.bf_tape.proofs.Turning.{get_put}
use Rattle.bf_columns.specs.Lanes.{lane_cell}
use Rattle.bf_trail.specs.Nest.{trail}
use Rattle.bf_trail.specs.Sides.{end_of, out_side_code, back_side_code, half, AtHalf}
use Rattle.bf_columns.specs.Deal.{Units, row_of}
use Rattle.bf_trail.specs.Fetch.{begins, unit_code, fetched, TripsAreUnits}
use Rattle.bf_columns.proofs.Tapes.{next, between, comes_to, put_same, put_is}
use Rattle.bf_trail.proofs.Sided.{reached}

-- so many more in a cell
pub pluses : (input : List ℕ) (k c v : ℕ) (s : Tape) → get s c ≡ v → v < 256 → Does input (many k Plus) c s c (put s c ((v + k) % 256)) k
pluses input zero c v s is lt = let e : v ≡ (v + 0) % 256 = omega arith in comes_to (put s c ((v + 0) % 256)) (does_none input c s) (sym (put_is s c ((v + 0) % 256) (is ∙ e)))
pluses input (suc k) c v s is lt =
    let w : ℕ = raised v in
    let e : (w + k) % 256 ≡ (v + suc k) % 256 = omega arith in
    let one : Does input (Plus ∷ []) c s c (put s c w) 1 = comes_to (put s c w) (does_plus input c s) (ap (λ x. put s c (raised x)) is) in
    does_within (suc k) (comes_to (put s c ((v + suc k) % 256)) (next one (pluses input k c w (put s c w) (get_put s c w) (omega arith))) (put_same s c w ((w + k) % 256) ∙ ap (put s c) e)) (omega arith)

module _ (input : List ℕ) (t : Tape) (n side i : ℕ) (ls : side < 2) (li : i < 3) (at_half : AtHalf t trail n side) (free_none : get t (half trail n side + 16) ≡ 0) where
  abbrev p : ℕ
  p = half trail n side

  abbrev g : ℕ
  g = p + 4

  abbrev byte : ℕ
  byte = p + 1 + i

  abbrev y : ℕ → ℕ
  y j = lane_cell 6 (4 * i + j)

  abbrev five : List ℕ
  five = byte ∷ y 0 ∷ y 1 ∷ y 2 ∷ y 3 ∷ []

  abbrev eight : List ℕ
  eight = (g + 4) ∷ (g + 8) ∷ (g + 16) ∷ five

  away : (m : ℕ) → IsNew (trail + 4 * m) five
  away m = (omega arith, (omega arith, (omega arith, (omega arith, (omega arith, tt)))))

  away_all : (m : ℕ) → trail + 4 * m ≤ g → IsNew (trail + 4 * m) eight
  away_all m le = (omega arith, (omega arith, (omega arith, away m)))

  apart_five : AreApart five
  apart_five = ((omega arith, (omega arith, (omega arith, (omega arith, tt)))), ((omega arith, (omega arith, (omega arith, tt))), ((omega arith, (omega arith, tt)), ((omega arith, tt), (tt, tt)))))

  apart : AreApart eight
  apart = (
    (omega arith, (omega arith, (omega arith, (omega arith, (omega arith, (omega arith, (omega arith, tt))))))),
    (
      (omega arith, (omega arith, (omega arith, (omega arith, (omega arith, (omega arith, tt)))))),
      ((omega arith, (omega arith, (omega arith, (omega arith, (omega arith, tt))))), apart_five),
    ),
  )

  -- the way to the half record is told by other cells
  stays : (vs : List ℕ) → AtHalf (holding t eight vs) trail n side
  stays vs =
      let u : Tape = holding t eight vs in
      let same : (c m : ℕ) → trail + 4 * m ≡ c → c ≤ g → get u c ≡ get t c = λ c m e le. subst (λ x. get u x ≡ get t x) e (get_free t (trail + 4 * m) eight vs (away_all m (omega arith))) in record {
        trail = record {
          before = same trail 0 (omega arith) (omega arith) ∙ at_half.trail.before;
          marks = λ k lt. same (trail + 8 * (k + 1)) (2 * (k + 1)) (omega arith) (omega arith) ∙ at_half.trail.marks k lt;
          end = same (trail + 8 * (n + 1)) (2 * (n + 1)) (omega arith) (omega arith) ∙ at_half.trail.end;
        };
        beside = same (end_of trail n + 4) (2 * (n + 1) + 1) (omega arith) (omega arith) ∙ at_half.beside;
        guard = same (p + 4) (2 * (n + 1) + side + 1) (omega arith) (omega arith) ∙ at_half.guard;
      }

  -- a trip, of which the two changes are known
  trip : (j : ℕ) (vs ws xs : List ℕ) → 4 ^ j ≤ 64 → 8 ≤ begins j → begins j ≤ 12 → j < 4 → Does input (many (4 ^ j) Plus) byte (holding t eight vs) byte (holding t eight ws) (4 ^ j) → Does input (Plus ∷ []) (y j) (holding t eight ws) (y j) (holding t eight xs) 1
      → Does input (unit_code i j) (p + begins j) (holding t eight vs) (p + begins j) (holding t eight xs) (18 * n + 500)
  trip j vs ws xs few low high lj first second =
      let a : Tape = holding t eight vs in
      let b : Tape = holding t eight ws in
      let c : Tape = holding t eight xs in
      let e : byte + (begins j - 1 - i) ≡ p + begins j = omega arith in
      let f : p + (1 + i) ≡ byte = omega arith in
      let sides = reached input b trail n side ls (stays ws) in
      let sides' = reached input c trail n side ls (stays xs) in
      does_within (18 * n + 500)
      (next (next (next (next (next (next (next (next
      (between (p + begins j) byte (does_lefts input (begins j - 1 - i) byte a) e refl) first)
      (between byte p (does_lefts input (1 + i) p b) f refl)) sides.back)
      (does_goto input trail (y j) b 150 (omega arith))) second)
      (does_goto input (y j) trail c 150 (omega arith))) sides'.out)
      (does_rights input (begins j) p c)) (omega arith)

  abbrev row : (ℕ → ℕ) → ℕ → ℕ → ℕ → Tape
  row u m r q = row_of (fetched t p i u) g 4 m r q

  abbrev total : (ℕ → ℕ) → ℕ
  total u = (u 0 + 4 * u 1 + 16 * u 2 + 64 * u 3) % 256

  -- the byte gets so much more
  byte_more : (k m r q a b c d v w : ℕ) → v < 256 → (v + k) % 256 ≡ w → Does input (many k Plus) byte (holding t eight (m ∷ r ∷ q ∷ v ∷ a ∷ b ∷ c ∷ d ∷ [])) byte (holding t eight (m ∷ r ∷ q ∷ w ∷ a ∷ b ∷ c ∷ d ∷ [])) k
  byte_more k m r q a b c d v w lt e =
      comes_to (holding t eight (m ∷ r ∷ q ∷ w ∷ a ∷ b ∷ c ∷ d ∷ []))
      (pluses input k byte v (holding t eight (m ∷ r ∷ q ∷ v ∷ a ∷ b ∷ c ∷ d ∷ [])) (get_held t eight (m ∷ r ∷ q ∷ v ∷ a ∷ b ∷ c ∷ d ∷ []) 3 apart (omega arith) refl) lt)
      (put_held t eight (m ∷ r ∷ q ∷ v ∷ a ∷ b ∷ c ∷ d ∷ []) 3 ((v + k) % 256) apart (omega arith) refl ∙ ap (λ x. holding t eight (m ∷ r ∷ q ∷ x ∷ a ∷ b ∷ c ∷ d ∷ [])) e)

  unit_0 : (u : ℕ → ℕ) (m r q : ℕ) → u 0 < 3 → Does input (unit_code i 0) (g + 8) (row u m r q) (g + 8) (row (set_cell u 0 (u 0 + 1)) m r q) (18 * n + 500)
  unit_0 u m r q lt =
      let e : p + 12 ≡ g + 8 = omega arith in
      let w : ℕ = total (set_cell u 0 (u 0 + 1)) in
      let up : raised (u 0) ≡ u 0 + 1 = omega arith in
      between (g + 8) (g + 8)
      (trip 0 (m ∷ r ∷ q ∷ total u ∷ u 0 ∷ u 1 ∷ u 2 ∷ u 3 ∷ []) (m ∷ r ∷ q ∷ w ∷ u 0 ∷ u 1 ∷ u 2 ∷ u 3 ∷ []) (m ∷ r ∷ q ∷ w ∷ (u 0 + 1) ∷ u 1 ∷ u 2 ∷ u 3 ∷ []) (omega arith) (omega arith) (omega arith) (omega arith)
      (byte_more 1 m r q (u 0) (u 1) (u 2) (u 3) (total u) w (omega arith) (omega arith))
      (comes_to (holding t eight (m ∷ r ∷ q ∷ w ∷ (u 0 + 1) ∷ u 1 ∷ u 2 ∷ u 3 ∷ [])) (plus_at input t eight apart (m ∷ r ∷ q ∷ w ∷ u 0 ∷ u 1 ∷ u 2 ∷ u 3 ∷ []) 4 (omega arith) refl) (ap (λ x. holding t eight (m ∷ r ∷ q ∷ w ∷ x ∷ u 1 ∷ u 2 ∷ u 3 ∷ [])) up))) e e

  unit_1 : (u : ℕ → ℕ) (m r q : ℕ) → u 1 < 3 → Does input (unit_code i 1) (g + 8) (row u m r q) (g + 8) (row (set_cell u 1 (u 1 + 1)) m r q) (18 * n + 500)
  unit_1 u m r q lt =
      let e : p + 12 ≡ g + 8 = omega arith in
      let w : ℕ = total (set_cell u 1 (u 1 + 1)) in
      let up : raised (u 1) ≡ u 1 + 1 = omega arith in
      between (g + 8) (g + 8)
      (trip 1 (m ∷ r ∷ q ∷ total u ∷ u 0 ∷ u 1 ∷ u 2 ∷ u 3 ∷ []) (m ∷ r ∷ q ∷ w ∷ u 0 ∷ u 1 ∷ u 2 ∷ u 3 ∷ []) (m ∷ r ∷ q ∷ w ∷ u 0 ∷ (u 1 + 1) ∷ u 2 ∷ u 3 ∷ []) (omega arith) (omega arith) (omega arith) (omega arith)
      (byte_more 4 m r q (u 0) (u 1) (u 2) (u 3) (total u) w (omega arith) (omega arith))
      (comes_to (holding t eight (m ∷ r ∷ q ∷ w ∷ u 0 ∷ (u 1 + 1) ∷ u 2 ∷ u 3 ∷ [])) (plus_at input t eight apart (m ∷ r ∷ q ∷ w ∷ u 0 ∷ u 1 ∷ u 2 ∷ u 3 ∷ []) 5 (omega arith) refl) (ap (λ x. holding t eight (m ∷ r ∷ q ∷ w ∷ u 0 ∷ x ∷ u 2 ∷ u 3 ∷ [])) up))) e e

  unit_2 : (u : ℕ → ℕ) (m r q : ℕ) → u 2 < 3 → Does input (unit_code i 2) (g + 8) (row u m r q) (g + 8) (row (set_cell u 2 (u 2 + 1)) m r q) (18 * n + 500)
  unit_2 u m r q lt =
      let e : p + 12 ≡ g + 8 = omega arith in
      let w : ℕ = total (set_cell u 2 (u 2 + 1)) in
      let up : raised (u 2) ≡ u 2 + 1 = omega arith in
      between (g + 8) (g + 8)
      (trip 2 (m ∷ r ∷ q ∷ total u ∷ u 0 ∷ u 1 ∷ u 2 ∷ u 3 ∷ []) (m ∷ r ∷ q ∷ w ∷ u 0 ∷ u 1 ∷ u 2 ∷ u 3 ∷ []) (m ∷ r ∷ q ∷ w ∷ u 0 ∷ u 1 ∷ (u 2 + 1) ∷ u 3 ∷ []) (omega arith) (omega arith) (omega arith) (omega arith)
      (byte_more 16 m r q (u 0) (u 1) (u 2) (u 3) (total u) w (omega arith) (omega arith))
      (comes_to (holding t eight (m ∷ r ∷ q ∷ w ∷ u 0 ∷ u 1 ∷ (u 2 + 1) ∷ u 3 ∷ [])) (plus_at input t eight apart (m ∷ r ∷ q ∷ w ∷ u 0 ∷ u 1 ∷ u 2 ∷ u 3 ∷ []) 6 (omega arith) refl) (ap (λ x. holding t eight (m ∷ r ∷ q ∷ w ∷ u 0 ∷ u 1 ∷ x ∷ u 3 ∷ [])) up))) e e

  unit_3 : (u : ℕ → ℕ) (m r q : ℕ) → u 3 < 3 → Does input (unit_code i 3) (g + 4) (row u m r q) (g + 4) (row (set_cell u 3 (u 3 + 1)) m r q) (18 * n + 500)
  unit_3 u m r q lt =
      let e : p + 8 ≡ g + 4 = omega arith in
      let w : ℕ = total (set_cell u 3 (u 3 + 1)) in
      let up : raised (u 3) ≡ u 3 + 1 = omega arith in
      between (g + 4) (g + 4)
      (trip 3 (m ∷ r ∷ q ∷ total u ∷ u 0 ∷ u 1 ∷ u 2 ∷ u 3 ∷ []) (m ∷ r ∷ q ∷ w ∷ u 0 ∷ u 1 ∷ u 2 ∷ u 3 ∷ []) (m ∷ r ∷ q ∷ w ∷ u 0 ∷ u 1 ∷ u 2 ∷ (u 3 + 1) ∷ []) (omega arith) (omega arith) (omega arith) (omega arith)
      (byte_more 64 m r q (u 0) (u 1) (u 2) (u 3) (total u) w (omega arith) (omega arith))
      (comes_to (holding t eight (m ∷ r ∷ q ∷ w ∷ u 0 ∷ u 1 ∷ u 2 ∷ (u 3 + 1) ∷ [])) (plus_at input t eight apart (m ∷ r ∷ q ∷ w ∷ u 0 ∷ u 1 ∷ u 2 ∷ u 3 ∷ []) 7 (omega arith) refl) (ap (λ x. holding t eight (m ∷ r ∷ q ∷ w ∷ u 0 ∷ u 1 ∷ u 2 ∷ x ∷ [])) up))) e e

  trips : Units input (fetched t p i) g 4 (18 * n + 500) (unit_code i)
  trips = record {
    balanced = balanced;
    guard = λ u. let e : trail + 4 * (2 * (n + 1) + side + 1) ≡ g = omega arith in subst (λ c. get (fetched t p i u) c ≡ get t c) e (get_free t (trail + 4 * (2 * (n + 1) + side + 1)) five (total u ∷ u 0 ∷ u 1 ∷ u 2 ∷ u 3 ∷ []) (away (2 * (n + 1) + side + 1))) ∙ at_half.guard;
    free = λ u.
        let e : trail + 4 * (2 * (n + 1) + side + 4) ≡ g + 12 = omega arith in
        let f : p + 16 ≡ g + 12 = omega arith in
        subst (λ c. get (fetched t p i u) c ≡ get t c) e (get_free t (trail + 4 * (2 * (n + 1) + side + 4)) five (total u ∷ u 0 ∷ u 1 ∷ u 2 ∷ u 3 ∷ []) (away (2 * (n + 1) + side + 4))) ∙ (ap (get t) (sym f) ∙ free_none);
    low = low;
    top = λ u m r q lt. unit_3 u m r q lt;
  }
    where
      balanced : (j : ℕ) → IsBalanced (unit_code i j)
      balanced j =
          let y : ℕ = lane_cell 6 (4 * i + j) in
          let a : List Command = many (begins j - 1 - i) Left ++ many (4 ^ j) Plus ++ many (1 + i) Left in
          balanced_append (a ++ back_side_code ++ goto_code trail y ++ (Plus ∷ []) ++ goto_code y trail ++ out_side_code) (many (begins j) Right)
          (balanced_append (a ++ back_side_code ++ goto_code trail y ++ (Plus ∷ []) ++ goto_code y trail) out_side_code
          (balanced_append (a ++ back_side_code ++ goto_code trail y ++ (Plus ∷ [])) (goto_code y trail)
          (balanced_append (a ++ back_side_code ++ goto_code trail y) (Plus ∷ [])
          (balanced_append (a ++ back_side_code) (goto_code trail y)
          (balanced_append a back_side_code
          (balanced_append (many (begins j - 1 - i) Left ++ many (4 ^ j) Plus) (many (1 + i) Left) (balanced_append (many (begins j - 1 - i) Left) (many (4 ^ j) Plus) (balanced_many (begins j - 1 - i) Left refl) (balanced_many (4 ^ j) Plus refl)) (balanced_many (1 + i) Left refl)) refl)
          (balanced_goto trail y)) refl) (balanced_goto y trail)) refl) (balanced_many (begins j) Right refl)

      low : (j : ℕ) (u : ℕ → ℕ) (m r q : ℕ) → j < 3 → u j < 3 → Does input (unit_code i j) (g + 8) (row u m r q) (g + 8) (row (set_cell u j (u j + 1)) m r q) (18 * n + 500)
      low zero u m r q lj lt = unit_0 u m r q lt
      low (suc zero) u m r q lj lt = unit_1 u m r q lt
      low (suc (suc zero)) u m r q lj lt = unit_2 u m r q lt
      low (suc (suc (suc j))) u m r q lj lt = absurd (omega arith)

pub trips_are_units : TripsAreUnits
trips_are_units input t n side i ls li at none = trips input t n side i ls li at none
