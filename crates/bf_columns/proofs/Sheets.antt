-- Cells of a sheet, and a text at one of its columns.
use Rattle.std.proofs.Common.{◌≡◌, ◌≢◌, ℕ, zero, suc, ◌+◌, ◌-◌, ◌*◌, ◌/◌, ◌%◌, ◌<◌, ◌≤◌, Bool, true, false, nat_lt, nat_le, nat_eq, cond, List, [], ◌∷◌, length, refl, sym, ap, subst, ◌∙◌, arith}
use Rattle.std.proofs.lemmas.Bool.{eqb-true, eqb-false}
use Rattle.std.proofs.lemmas.Bool.Decides.{nat_tests}
use Rattle.bf_tape.specs.Tape.{Tape, get}
use Rattle.bf_tape.specs.Does.{Does}
use Rattle.bf_tape.specs.Slots.{filled, holding, AreApart, nth}
use Rattle.bf_tape.proofs.Slotted.{same_tape, all_of, held}
use Rattle.bf_tape.proofs.Turning.{reframe, reframe_start}
use Rattle.bf_columns.specs.Lanes.{lane_cell}
use Rattle.bf_columns.specs.Columns.{guide}
use Rattle.bf_columns.specs.Text.{AreWithin, Text, spelled, comes}
use Rattle.bf_columns.specs.Bodies.{lows, highs}
use Rattle.bf_columns.specs.Sheet.{Sheet, sheet, IsRegister}
use Rattle.bf_columns.specs.Worked.{cells_of}
use Rattle.bf_columns.proofs.Reckoned.{reckons}

-- the cell of a lane in a column
pub get_sheet : (t : Tape) (v : Sheet) (l j : ℕ) → l < 10 → j ≤ 12 → get (sheet t v) (lane_cell l j) ≡ v j l
get_sheet t v l j ll lj =
    let c : ℕ = lane_cell l j in
    let here : cond (nat_le t.base (t.base + c)) (nat_lt (t.base + c) (t.base + 130)) false ≡ true = (let a : nat_le t.base (t.base + c) ≡ true = grind (arith, nat_tests) in let b : nat_lt (t.base + c) (t.base + 130) ≡ true = grind (arith, nat_tests) in ap (λ x. cond x (nat_lt (t.base + c) (t.base + 130)) false) a ∙ b) in
    let k : t.base + c - t.base ≡ 10 * (12 - j) + l = omega arith in
    let col : 12 - (10 * (12 - j) + l) / 10 ≡ j = omega arith in
    let lane : (10 * (12 - j) + l) % 10 ≡ l = omega arith in
    ap (λ x. cond x (v (12 - (t.base + c - t.base) / 10) ((t.base + c - t.base) % 10)) (t.cells (t.base + c))) here
    ∙ (ap (λ x. v (12 - x / 10) (x % 10)) k ∙ (λ i. v (col i) (lane i)))

-- a cell past the sheet
pub get_past : (t : Tape) (v : Sheet) (c : ℕ) → 130 ≤ c → get (sheet t v) c ≡ get t c
get_past t v c le =
    let b : nat_lt (t.base + c) (t.base + 130) ≡ false = grind (arith, nat_tests) in
    none (nat_le t.base (t.base + c)) (nat_lt (t.base + c) (t.base + 130)) b
  where
    none : (x y : Bool) → y ≡ false → cond (cond x y false) (v (12 - (t.base + c - t.base) / 10) ((t.base + c - t.base) % 10)) (t.cells (t.base + c)) ≡ t.cells (t.base + c)
    none true y e = ap (λ z. cond z (v (12 - (t.base + c - t.base) / 10) ((t.base + c - t.base) % 10)) (t.cells (t.base + c))) e
    none false y e = refl

-- sheets that agree make one tape
pub sheet_ext : (t : Tape) (u v : Sheet) → ((j l : ℕ) → j ≤ 12 → l < 10 → u j l ≡ v j l) → sheet t u ≡ sheet t v
sheet_ext t u v each = same_tape t (sheet t u).cells (sheet t v).cells at
  where
    at : (q : ℕ) → (sheet t u).cells q ≡ (sheet t v).cells q
    at q = ap (λ x. cond (cond (nat_le t.base q) (nat_lt q (t.base + 130)) false) x (t.cells q)) (each (12 - (q - t.base) / 10) ((q - t.base) % 10) (omega arith) (omega arith))

-- named cells filled anew make other cells, if these have the values and are the same elsewhere
pub refilled : (ns vs : List ℕ) (b : ℕ) (f g : ℕ → ℕ) (q : ℕ) → length vs ≡ length ns → ((i : ℕ) → i < length ns → g (b + nth ns i) ≡ nth vs i) → (((i : ℕ) → i < length ns → q ≢ b + nth ns i) → f q ≡ g q) → filled ns vs b f q ≡ g q
refilled [] vs b f g q fits on off = off (λ i lt. absurd (omega arith))
refilled (n ∷ ns) [] b f g q fits on off = absurd (omega arith)
refilled (n ∷ ns) (v ∷ vs) b f g q fits on off = elim (nat_eq q (b + n)) as (λ t. nat_eq q (b + n) ≡ t → cond t v (filled ns vs b f q) ≡ g q) [
  | true ↦ λ e. sym (on 0 (omega arith)) ∙ ap g (sym (eqb-true q (b + n) e))
  | false ↦ λ e. refilled ns vs b f g q (omega arith) (λ i lt. on (suc i) (omega arith)) (λ h. off (split (eqb-false q (b + n) e) h))
] refl
  where
    split : q ≢ b + n → ((i : ℕ) → i < length ns → q ≢ b + nth ns i) → (i : ℕ) → i < length (n ∷ ns) → q ≢ b + nth (n ∷ ns) i
    split d h zero lt = d
    split d h (suc i) lt = h i (omega arith)

module _ (d s : ℕ) (rd : IsRegister d) (rs : IsRegister s) (differ : d ≢ s) where
  pub cells_apart : AreApart (cells_of d s)
  cells_apart =
      let a = rd.below in let b = rd.no_x in let c = rd.no_guide in let e = rd.no_y in
      let f = rs.below in let g = rs.no_x in let h = rs.no_guide in let i = rs.no_y in
      ((omega arith, (omega arith, (omega arith, (omega arith, (omega arith, (omega arith, tt)))))), ((omega arith, (omega arith, (omega arith, (omega arith, (omega arith, tt))))), ((omega arith, (omega arith, (omega arith, (omega arith, tt)))), ((omega arith, (omega arith, (omega arith, tt))), ((omega arith, (omega arith, tt)), ((omega arith, tt), (tt, tt)))))))

  within : (i : ℕ) → i < 7 → (nth lows i ≤ nth (cells_of d s) i) × (nth (cells_of d s) i ≤ nth highs i)
  within zero lt = (omega arith, let a = rd.below in omega arith)
  within (suc zero) lt = (omega arith, let a = rs.below in omega arith)
  within (suc (suc zero)) lt = (omega arith, omega arith)
  within (suc (suc (suc zero))) lt = (omega arith, omega arith)
  within (suc (suc (suc (suc zero)))) lt = (omega arith, omega arith)
  within (suc (suc (suc (suc (suc zero))))) lt = (omega arith, omega arith)
  within (suc (suc (suc (suc (suc (suc zero)))))) lt = (omega arith, omega arith)
  within (suc (suc (suc (suc (suc (suc (suc i))))))) lt = absurd (omega arith)

  pub cells_within : AreWithin (cells_of d s) lows highs
  cells_within = record { lows = refl; within = within }

  -- a text at a column leads from one sheet to another
  module _ (input : List ℕ) (t : Tape) (u w : Sheet) (j : ℕ) (lt : j < 12) where
    abbrev window : Sheet → List ℕ
    window v = v j d ∷ v j s ∷ v j 3 ∷ v j 6 ∷ v j 9 ∷ v (suc j) 9 ∷ v j 5 ∷ []

    abbrev b : ℕ
    b = t.base + (110 - 10 * j)

    abbrev frame : Sheet → Tape
    frame v = record { base = b; cells = (sheet t v).cells; taken = t.taken; output = t.output }

    lane_at : (v : Sheet) (l : ℕ) → l < 10 → (sheet t v).cells (b + (10 + l)) ≡ v j l
    lane_at v l ll = let e : b + (10 + l) ≡ t.base + lane_cell l j = omega arith in ap (sheet t v).cells e ∙ get_sheet t v l j ll (omega arith)

    carry_at : (v : Sheet) → (sheet t v).cells (b + 9) ≡ v (suc j) 9
    carry_at v = let e : b + 9 ≡ t.base + lane_cell 9 (suc j) = omega arith in ap (sheet t v).cells e ∙ get_sheet t v 9 (suc j) (omega arith) (omega arith)

    windowed : (v : Sheet) (i : ℕ) → i < 7 → (sheet t v).cells (b + nth (cells_of d s) i) ≡ nth (window v) i
    windowed v zero li = lane_at v d (let a = rd.below in omega arith)
    windowed v (suc zero) li = lane_at v s (let a = rs.below in omega arith)
    windowed v (suc (suc zero)) li = lane_at v 3 (omega arith)
    windowed v (suc (suc (suc zero))) li = lane_at v 6 (omega arith)
    windowed v (suc (suc (suc (suc zero)))) li = lane_at v 9 (omega arith)
    windowed v (suc (suc (suc (suc (suc zero))))) li = carry_at v
    windowed v (suc (suc (suc (suc (suc (suc zero)))))) li = lane_at v 5 (omega arith)
    windowed v (suc (suc (suc (suc (suc (suc (suc i))))))) li = absurd (omega arith)

    module _ (agree : (k l : ℕ) → l < 10 → (k ≡ j → l ≢ d) → (k ≡ j → l ≢ 3) → (k ≡ j → l ≢ 6) → (k ≡ j → l ≢ 9) → (k ≡ suc j → l ≢ 9) → u k l ≡ w k l) where
      -- the values on a sheet make the sheet
      held_as : (from : Sheet) → ((k l : ℕ) → l < 10 → (k ≡ j → l ≢ d) → (k ≡ j → l ≢ 3) → (k ≡ j → l ≢ 6) → (k ≡ j → l ≢ 9) → (k ≡ suc j → l ≢ 9) → from k l ≡ w k l) → holding (frame from) (cells_of d s) (window w) ≡ frame w
      held_as from same = same_tape (frame from) (filled (cells_of d s) (window w) b (sheet t from).cells) (sheet t w).cells (λ q. refilled (cells_of d s) (window w) b (sheet t from).cells (sheet t w).cells q refl (λ i li. windowed w i li) (outside q))
        where
          outside : (q : ℕ) → ((i : ℕ) → i < 7 → q ≢ b + nth (cells_of d s) i) → (sheet t from).cells q ≡ (sheet t w).cells q
          outside q off = by (nat_le t.base q) (nat_lt q (t.base + 130)) refl refl
            where
              k : ℕ
              k = 12 - (q - t.base) / 10

              l : ℕ
              l = (q - t.base) % 10

              by : (x y : Bool) → nat_le t.base q ≡ x → nat_lt q (t.base + 130) ≡ y → cond (cond x y false) (from (12 - (q - t.base) / 10) ((q - t.base) % 10)) (t.cells q) ≡ cond (cond x y false) (w (12 - (q - t.base) / 10) ((q - t.base) % 10)) (t.cells q)
              by true true ex ey =
                  let le : t.base ≤ q = grind (arith, nat_tests) in
                  let less : q < t.base + 130 = grind (arith, nat_tests) in
                  same (12 - (q - t.base) / 10) ((q - t.base) % 10) (omega arith)
                  (λ e f. let n : q ≢ b + (10 + d) = off 0 (omega arith) in n (omega arith))
                  (λ e f. let n : q ≢ b + 13 = off 2 (omega arith) in n (omega arith))
                  (λ e f. let n : q ≢ b + 16 = off 3 (omega arith) in n (omega arith))
                  (λ e f. let n : q ≢ b + 19 = off 4 (omega arith) in n (omega arith))
                  (λ e f. let n : q ≢ b + 9 = off 5 (omega arith) in n (omega arith))
              by true false ex ey = refl
              by false y ex ey = refl

      pub at_column : (text : Text) (most : ℕ) → comes lows highs text 6 (window u) (window w) most ≡ true → Does input (spelled (cells_of d s) 6 text) (guide 5 12 j) (sheet t u) (guide 5 12 j) (sheet t w) most
      at_column text most e =
          let local = reckons input (frame u) (cells_of d s) lows highs cells_apart cells_within text 6 (window u) (window w) most (omega arith) refl e in
          let start : holding (frame u) (cells_of d s) (window u) ≡ frame u = (let f : window u ≡ all_of (frame u) (cells_of d s) = (λ i. sym (windowed u 0 (omega arith)) i ∷ sym (windowed u 1 (omega arith)) i ∷ sym (windowed u 2 (omega arith)) i ∷ sym (windowed u 3 (omega arith)) i ∷ sym (windowed u 4 (omega arith)) i ∷ sym (windowed u 5 (omega arith)) i ∷ sym (windowed u 6 (omega arith)) i ∷ []) in ap (holding (frame u) (cells_of d s)) f ∙ held (frame u) (cells_of d s)) in
          let g : b + 15 ≡ t.base + guide 5 12 j = omega arith in
          let told : Does input (spelled (cells_of d s) 6 text) 15 (frame u) 15 (frame w) most =
          subst (λ x. Does input (spelled (cells_of d s) 6 text) 15 (frame u) 15 x most) (held_as u agree)
          (subst (λ x. Does input (spelled (cells_of d s) 6 text) 15 x 15 (holding (frame u) (cells_of d s) (window w)) most) start local) in
          reframe (guide 5 12 j) (sheet t w) (reframe_start (guide 5 12 j) (sheet t u) told g refl refl refl) (sym g) refl refl refl
