-- A text over any row of cells of a sheet and past it.
use Rattle.std.proofs.Common.{◌≡◌, ◌≢◌, ℕ, suc, ◌+◌, ◌-◌, ◌/◌, ◌%◌, ◌<◌, ◌≤◌, Bool, true, false, nat_lt, nat_le, nat_eq, cond, List, [], ◌∷◌, length, refl, sym, ap, subst, ◌∙◌, arith}
use Rattle.std.proofs.lemmas.Bool.{eqb-true}
use Rattle.std.proofs.lemmas.Bool.Decides.{nat_tests}
use Rattle.bf_tape.specs.Tape.{Tape, get, put, set_cell}
use Rattle.bf_tape.specs.Does.{Does}
use Rattle.bf_tape.specs.Slots.{filled, holding, AreApart, nth}
use Rattle.bf_tape.proofs.Slotted.{same_tape, all_of, held}
use Rattle.bf_columns.specs.Lanes.{lane_cell}
use Rattle.bf_columns.specs.Text.{AreWithin, Text, spelled, comes}
use Rattle.bf_columns.specs.Sheet.{Sheet, sheet}
use Rattle.bf_columns.proofs.Reckoned.{reckons}
use Rattle.bf_columns.proofs.Sheets.{refilled}

-- a cell past the sheet written
pub put_past : (t : Tape) (v : Sheet) (c n : ℕ) → 130 ≤ c → put (sheet t v) c n ≡ sheet (put t c n) v
put_past t v c n le = same_tape t (set_cell (sheet t v).cells (t.base + c) n) (sheet (put t c n) v).cells at
  where
    by : (q : ℕ) (x y z : Bool) → nat_eq q (t.base + c) ≡ x → nat_le t.base q ≡ y → nat_lt q (t.base + 130) ≡ z
        → cond x n (cond (cond y z false) (v (12 - (q - t.base) / 10) ((q - t.base) % 10)) (t.cells q)) ≡ cond (cond y z false) (v (12 - (q - t.base) / 10) ((q - t.base) % 10)) (cond x n (t.cells q))
    by q true true true ex ey ez = let e : q ≡ t.base + c = eqb-true q (t.base + c) ex in let less : q < t.base + 130 = grind (arith, nat_tests) in absurd (omega arith)
    by q true true false ex ey ez = refl
    by q true false z ex ey ez = refl
    by q false y z ex ey ez = refl

    at : (q : ℕ) → set_cell (sheet t v).cells (t.base + c) n q ≡ (sheet (put t c n) v).cells q
    at q = by q (nat_eq q (t.base + c)) (nat_le t.base q) (nat_lt q (t.base + 130)) refl refl refl

-- what a list of cells of a tape has
pub reads_all : (s : Tape) (ns vs : List ℕ) → length vs ≡ length ns → ((i : ℕ) → i < length ns → get s (nth ns i) ≡ nth vs i) → vs ≡ all_of s ns
reads_all s [] [] fits reads = refl
reads_all s [] (v ∷ vs) fits reads = absurd (omega arith)
reads_all s (n ∷ ns) [] fits reads = absurd (omega arith)
reads_all s (n ∷ ns) (v ∷ vs) fits reads = λ i. sym (reads 0 (omega arith)) i ∷ reads_all s ns vs (omega arith) (λ i lt. reads (suc i) (omega arith)) i

-- a text leads from one tape to another, if the row has the values before and afterwards, and the tapes agree beside it
pub at_row : (input : List ℕ) (s s' : Tape) (ns los his : List ℕ) → AreApart ns → AreWithin ns los his → s.base ≡ s'.base → s.taken ≡ s'.taken → s.output ≡ s'.output
    → (text : Text) (h : ℕ) (vs ws : List ℕ) (most : ℕ) → h < length ns → length vs ≡ length ns → length ws ≡ length ns
    → ((i : ℕ) → i < length ns → get s (nth ns i) ≡ nth vs i) → ((i : ℕ) → i < length ns → s'.cells (s.base + nth ns i) ≡ nth ws i)
    → ((q : ℕ) → ((i : ℕ) → i < length ns → q ≢ s.base + nth ns i) → s.cells q ≡ s'.cells q)
    → comes los his text h vs ws most ≡ true → Does input (spelled ns h text) (nth ns h) s (nth ns h) s' most
at_row input s s' ns los his apart around eb et eo text h vs ws most lh fv fw reads writes agree e =
    let start : holding s ns vs ≡ s = ap (holding s ns) (reads_all s ns vs fv reads) ∙ held s ns in
    let cells : (q : ℕ) → filled ns ws s.base s.cells q ≡ s'.cells q = λ q. refilled ns ws s.base s.cells s'.cells q fw writes (agree q) in
    let end : holding s ns ws ≡ s' = (λ i. record { base = eb i; cells = λ q. cells q i; taken = et i; output = eo i }) in
    subst (λ x. Does input (spelled ns h text) (nth ns h) s (nth ns h) x most) end
    (subst (λ x. Does input (spelled ns h text) (nth ns h) x (nth ns h) (holding s ns ws) most) start
    (reckons input s ns los his apart around text h vs ws most lh fv e))

-- the same on sheets over one tape
pub on_sheet : (input : List ℕ) (t : Tape) (u w : Sheet) (ns los his : List ℕ) → AreApart ns → AreWithin ns los his → (text : Text) (h : ℕ) (vs ws : List ℕ) (most : ℕ) → h < length ns → length vs ≡ length ns → length ws ≡ length ns
    → ((i : ℕ) → i < length ns → get (sheet t u) (nth ns i) ≡ nth vs i) → ((i : ℕ) → i < length ns → get (sheet t w) (nth ns i) ≡ nth ws i)
    → ((k l : ℕ) → k ≤ 12 → l < 10 → ((i : ℕ) → i < length ns → lane_cell l k ≢ nth ns i) → u k l ≡ w k l)
    → comes los his text h vs ws most ≡ true → Does input (spelled ns h text) (nth ns h) (sheet t u) (nth ns h) (sheet t w) most
on_sheet input t u w ns los his apart around text h vs ws most lh fv fw reads writes agree e =
    at_row input (sheet t u) (sheet t w) ns los his apart around refl refl refl text h vs ws most lh fv fw reads writes at e
  where
    by : (q : ℕ) → ((i : ℕ) → i < length ns → q ≢ t.base + nth ns i) → (x y : Bool) → nat_le t.base q ≡ x → nat_lt q (t.base + 130) ≡ y → cond (cond x y false) (u (12 - (q - t.base) / 10) ((q - t.base) % 10)) (t.cells q) ≡ cond (cond x y false) (w (12 - (q - t.base) / 10) ((q - t.base) % 10)) (t.cells q)
    by q off true true ex ey =
        let le : t.base ≤ q = grind (arith, nat_tests) in
        let less : q < t.base + 130 = grind (arith, nat_tests) in
        agree (12 - (q - t.base) / 10) ((q - t.base) % 10) (omega arith) (omega arith) (λ i lt e. off i lt (omega arith))
    by q off true false ex ey = refl
    by q off false y ex ey = refl

    at : (q : ℕ) → ((i : ℕ) → i < length ns → q ≢ t.base + nth ns i) → (sheet t u).cells q ≡ (sheet t w).cells q
    at q off = by q off (nat_le t.base q) (nat_lt q (t.base + 130)) refl refl
