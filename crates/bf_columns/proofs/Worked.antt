-- A text that follows a rule does its work at each column.
use Rattle.std.proofs.Common.{◌≡◌, ◌≢◌, ℕ, zero, suc, ◌+◌, ◌-◌, ◌*◌, ◌<◌, ◌≤◌, Bool, true, false, nat_lt, nat_eq, cond, List, [], ◌∷◌, refl, sym, ap, subst, ◌∙◌, arith, eq-eqb, ne_eqb}
use Rattle.std.proofs.lemmas.Bool.{eqb-true}
use Rattle.std.proofs.lemmas.Bool.Decides.{nat_tests}
use Rattle.bf_tape.specs.Tape.{Tape, get}
use Rattle.bf_tape.specs.Does.{Does}
use Rattle.bf_columns.specs.Lanes.{lane_cell}
use Rattle.bf_columns.specs.Columns.{guide, Columns}
use Rattle.bf_columns.specs.Text.{Text, comes, each_below}
use Rattle.bf_columns.specs.Bodies.{Rule, follows, lows, highs}
use Rattle.bf_columns.specs.Sheet.{Sheet, sheet, IsRegister, four_lanes}
use Rattle.bf_columns.specs.Worked.{cells_of, body_of, onwards_code, carried, made, since, worked, HasDigits, Carries, ColumnsAreWorked}
use Rattle.bf_columns.proofs.Tapes.{between}
use Rattle.bf_columns.proofs.Reckoned.{below_each, spelled_balanced}
use Rattle.bf_columns.proofs.Sheets.{get_sheet, at_column}
use Rattle.bf_columns.proofs.Visited.{onwards}

-- the lanes of a sheet
module _ (v : Sheet) (d : ℕ) (rd : IsRegister d) (a x y z : ℕ → ℕ) (k : ℕ) where
  pub own_lane : four_lanes v d a x y z k d ≡ a k
  own_lane =
      let e9 : nat_eq d 9 ≡ false = ne_eqb d 9 (let l = rd.below in omega arith) in
      let e6 : nat_eq d 6 ≡ false = ne_eqb d 6 rd.no_y in
      let e3 : nat_eq d 3 ≡ false = ne_eqb d 3 rd.no_x in
      (λ i. cond (e9 i) (z k) (cond (e6 i) (y k) (cond (e3 i) (x k) (cond (eq-eqb d d refl i) (a k) (v k d)))))

  pub other_lane : (l : ℕ) → l ≢ 9 → l ≢ 6 → l ≢ 3 → l ≢ d → four_lanes v d a x y z k l ≡ v k l
  other_lane l n9 n6 n3 nd = (λ i. cond (ne_eqb l 9 n9 i) (z k) (cond (ne_eqb l 6 n6 i) (y k) (cond (ne_eqb l 3 n3 i) (x k) (cond (ne_eqb l d nd i) (a k) (v k l)))))

-- sheets whose lanes agree beside a column
pub four_agree : (v : Sheet) (d j : ℕ) (a x y z a' x' y' z' : ℕ → ℕ) → ((k : ℕ) → k ≢ j → a k ≡ a' k) → ((k : ℕ) → k ≢ j → x k ≡ x' k) → ((k : ℕ) → k ≢ j → y k ≡ y' k) → ((k : ℕ) → k ≢ j → k ≢ suc j → z k ≡ z' k)
    → (k l : ℕ) → l < 10 → (k ≡ j → l ≢ d) → (k ≡ j → l ≢ 3) → (k ≡ j → l ≢ 6) → (k ≡ j → l ≢ 9) → (k ≡ suc j → l ≢ 9) → four_lanes v d a x y z k l ≡ four_lanes v d a' x' y' z' k l
four_agree v d j a x y z a' x' y' z' fa fx fy fz k l ll hd hx hy hz hc = at_nine (nat_eq l 9) refl
  where
    at_own : (b : Bool) → nat_eq l d ≡ b → cond b (a k) (v k l) ≡ cond b (a' k) (v k l)
    at_own true e = fa k (λ f. hd f (eqb-true l d e))
    at_own false e = refl

    at_three : (b : Bool) → nat_eq l 3 ≡ b → cond b (x k) (cond (nat_eq l d) (a k) (v k l)) ≡ cond b (x' k) (cond (nat_eq l d) (a' k) (v k l))
    at_three true e = fx k (λ f. hx f (eqb-true l 3 e))
    at_three false e = at_own (nat_eq l d) refl

    at_six : (b : Bool) → nat_eq l 6 ≡ b → cond b (y k) (cond (nat_eq l 3) (x k) (cond (nat_eq l d) (a k) (v k l))) ≡ cond b (y' k) (cond (nat_eq l 3) (x' k) (cond (nat_eq l d) (a' k) (v k l)))
    at_six true e = fy k (λ f. hy f (eqb-true l 6 e))
    at_six false e = at_three (nat_eq l 3) refl

    at_nine : (b : Bool) → nat_eq l 9 ≡ b → cond b (z k) (cond (nat_eq l 6) (y k) (cond (nat_eq l 3) (x k) (cond (nat_eq l d) (a k) (v k l)))) ≡ cond b (z' k) (cond (nat_eq l 6) (y' k) (cond (nat_eq l 3) (x' k) (cond (nat_eq l d) (a' k) (v k l))))
    at_nine true e = fz k (λ f. hz f (eqb-true l 9 e)) (λ f. hc f (eqb-true l 9 e))
    at_nine false e = at_six (nat_eq l 6) refl

module _ (first i : ℕ) (f g : ℕ → ℕ) where
  since_other : (k : ℕ) → k ≢ first + i → since first i f g k ≡ since first (suc i) f g k
  since_other k ne = let e : nat_lt k (first + i) ≡ nat_lt k (first + suc i) = grind (arith, nat_tests) in ap (λ b. cond (nat_lt k first) (g k) (cond b (f k) (g k))) e

  since_here : since first i f g (first + i) ≡ g (first + i)
  since_here = let e : nat_lt (first + i) (first + i) ≡ false = grind (arith, nat_tests) in ap (λ b. cond (nat_lt (first + i) first) (g (first + i)) (cond b (f (first + i)) (g (first + i)))) e ∙ both (nat_lt (first + i) first) (g (first + i))
    where
      both : (b : Bool) (x : ℕ) → cond b x x ≡ x
      both true x = refl
      both false x = refl

  since_next : since first (suc i) f g (first + i) ≡ f (first + i)
  since_next =
      let e : nat_lt (first + i) first ≡ false = grind (arith, nat_tests) in
      let e' : nat_lt (first + i) (first + suc i) ≡ true = grind (arith, nat_tests) in
      (λ j. cond (e j) (g (first + i)) (cond (e' j) (f (first + i)) (g (first + i))))

-- a rule's case
followed : (text : Text) (r : Rule) (ny nz most : ℕ) → follows text r ny nz most ≡ true → (a b y z : ℕ) → a < 4 → b < 4 → y < ny → z < nz
    → comes lows highs text 6 (a ∷ b ∷ 0 ∷ y ∷ z ∷ 0 ∷ 1 ∷ []) (r.own a b y z ∷ b ∷ r.spare a b y z ∷ r.lane a b y z ∷ 0 ∷ r.carry a b y z ∷ 1 ∷ []) most ≡ true
followed text r ny nz most e a b y z la lb ly lz =
    below_each nz z (λ z. comes lows highs text 6 (a ∷ b ∷ 0 ∷ y ∷ z ∷ 0 ∷ 1 ∷ []) (r.own a b y z ∷ b ∷ r.spare a b y z ∷ r.lane a b y z ∷ 0 ∷ r.carry a b y z ∷ 1 ∷ []) most)
    (below_each ny y (λ y. each_below nz (λ z. comes lows highs text 6 (a ∷ b ∷ 0 ∷ y ∷ z ∷ 0 ∷ 1 ∷ []) (r.own a b y z ∷ b ∷ r.spare a b y z ∷ r.lane a b y z ∷ 0 ∷ r.carry a b y z ∷ 1 ∷ []) most))
    (below_each 4 b (λ b. each_below ny (λ y. each_below nz (λ z. comes lows highs text 6 (a ∷ b ∷ 0 ∷ y ∷ z ∷ 0 ∷ 1 ∷ []) (r.own a b y z ∷ b ∷ r.spare a b y z ∷ r.lane a b y z ∷ 0 ∷ r.carry a b y z ∷ 1 ∷ []) most)))
    (below_each 4 a (λ a. each_below 4 (λ b. each_below ny (λ y. each_below nz (λ z. comes lows highs text 6 (a ∷ b ∷ 0 ∷ y ∷ z ∷ 0 ∷ 1 ∷ []) (r.own a b y z ∷ b ∷ r.spare a b y z ∷ r.lane a b y z ∷ 0 ∷ r.carry a b y z ∷ 1 ∷ []) most)))) e la) lb) ly) lz

module _ (input : List ℕ) (t : Tape) (v : Sheet) (d s first z ny nz : ℕ) (r : Rule) (rd : IsRegister d) (rs : IsRegister s) (differ : d ≢ s) (lz : z < nz) (digits : HasDigits v d s ny) (guides : (j : ℕ) → j < 12 → v j 5 ≡ 1) (carries : Carries r ny nz) where
  abbrev c : ℕ → ℕ
  c i = carried r v d s first z i

  pub small : (i : ℕ) → first + i ≤ 12 → c i < nz
  small zero le = lz
  small (suc i) le = carries (v (first + i) d) (v (first + i) s) (v (first + i) 6) (c i) (digits.own (first + i) (omega arith)) (digits.other (first + i) (omega arith)) (digits.lane (first + i) (omega arith)) (small i (omega arith))

  -- one column, by any text that follows the rule there
  pub column_worked : (text : Text) (most i : ℕ) → first + i < 12 → follows text r ny nz most ≡ true
      → Does input (body_of d s text) (guide 5 12 (first + i)) (sheet t (worked r v d s first z i)) (guide 5 12 (first + i)) (sheet t (worked r v d s first z (suc i))) most
  column_worked text most i lt e =
      let j : ℕ = first + i in
      let a : ℕ = v j d in let b : ℕ = v j s in let y : ℕ = v j 6 in let k : ℕ = c i in
      let own0 = since first i (made r.own r v d s first z) (λ k. v k d) in
      let spare0 = since first i (made r.spare r v d s first z) (λ k. 0) in
      let lane0 = since first i (made r.lane r v d s first z) (λ k. v k 6) in
      let own1 = since first (suc i) (made r.own r v d s first z) (λ k. v k d) in
      let spare1 = since first (suc i) (made r.spare r v d s first z) (λ k. 0) in
      let lane1 = since first (suc i) (made r.lane r v d s first z) (λ k. v k 6) in
      let z0 : ℕ → ℕ = λ k. cond (nat_eq k j) (c i) 0 in
      let z1 : ℕ → ℕ = λ k. cond (nat_eq k (first + suc i)) (c (suc i)) 0 in
      let next_is : first + suc i ≡ suc j = omega arith in
      let off : first + i - first ≡ i = omega arith in
      let n9 : s ≢ 9 = (let l = rs.below in omega arith) in
      let ns : s ≢ d = (λ f. differ (sym f)) in
      let w0 : (worked r v d s first z i j d ∷ worked r v d s first z i j s ∷ worked r v d s first z i j 3 ∷ worked r v d s first z i j 6 ∷ worked r v d s first z i j 9 ∷ worked r v d s first z i (suc j) 9 ∷ worked r v d s first z i j 5 ∷ []) ≡ (a ∷ b ∷ 0 ∷ y ∷ k ∷ 0 ∷ 1 ∷ []) =
      (let e0 = own_lane v d rd own0 spare0 lane0 z0 j ∙ since_here first i (made r.own r v d s first z) (λ k. v k d) in
      let e1 = other_lane v d rd own0 spare0 lane0 z0 j s n9 rs.no_y rs.no_x ns in
      let e2 = since_here first i (made r.spare r v d s first z) (λ k. 0) in
      let e3 = since_here first i (made r.lane r v d s first z) (λ k. v k 6) in
      let e4 : z0 j ≡ k = ap (λ x. cond x (c i) 0) (eq-eqb j j refl) in
      let e5 : z0 (suc j) ≡ 0 = ap (λ x. cond x (c i) 0) (ne_eqb (suc j) j (λ f. absurd (omega arith))) in
      let e6 = other_lane v d rd own0 spare0 lane0 z0 j 5 (λ f. absurd (omega arith)) (λ f. absurd (omega arith)) (λ f. absurd (omega arith)) (λ f. rd.no_guide (sym f)) ∙ guides j lt in
      λ q. e0 q ∷ e1 q ∷ e2 q ∷ e3 q ∷ e4 q ∷ e5 q ∷ e6 q ∷ []) in
      let w1 : (worked r v d s first z (suc i) j d ∷ worked r v d s first z (suc i) j s ∷ worked r v d s first z (suc i) j 3 ∷ worked r v d s first z (suc i) j 6 ∷ worked r v d s first z (suc i) j 9 ∷ worked r v d s first z (suc i) (suc j) 9 ∷ worked r v d s first z (suc i) j 5 ∷ []) ≡ (r.own a b y k ∷ b ∷ r.spare a b y k ∷ r.lane a b y k ∷ 0 ∷ r.carry a b y k ∷ 1 ∷ []) =
      (let e0 = own_lane v d rd own1 spare1 lane1 z1 j ∙ (since_next first i (made r.own r v d s first z) (λ k. v k d) ∙ ap (λ x. r.own a b y (c x)) off) in
      let e1 = other_lane v d rd own1 spare1 lane1 z1 j s n9 rs.no_y rs.no_x ns in
      let e2 = since_next first i (made r.spare r v d s first z) (λ k. 0) ∙ ap (λ x. r.spare a b y (c x)) off in
      let e3 = since_next first i (made r.lane r v d s first z) (λ k. v k 6) ∙ ap (λ x. r.lane a b y (c x)) off in
      let e4 : z1 j ≡ 0 = ap (λ x. cond x (c (suc i)) 0) (ne_eqb j (first + suc i) (λ f. absurd (omega arith))) in
      let e5 : z1 (suc j) ≡ c (suc i) = ap (λ x. cond x (c (suc i)) 0) (eq-eqb (suc j) (first + suc i) (sym next_is)) in
      let e6 = other_lane v d rd own1 spare1 lane1 z1 j 5 (λ f. absurd (omega arith)) (λ f. absurd (omega arith)) (λ f. absurd (omega arith)) (λ f. rd.no_guide (sym f)) ∙ guides j lt in
      λ q. e0 q ∷ e1 q ∷ e2 q ∷ e3 q ∷ e4 q ∷ e5 q ∷ e6 q ∷ []) in
      at_column d s rd rs differ input t (worked r v d s first z i) (worked r v d s first z (suc i)) j lt
      (four_agree v d j own0 spare0 lane0 z0 own1 spare1 lane1 z1
      (λ k ne. since_other first i (made r.own r v d s first z) (λ k. v k d) k ne) (λ k ne. since_other first i (made r.spare r v d s first z) (λ k. 0) k ne) (λ k ne. since_other first i (made r.lane r v d s first z) (λ k. v k 6) k ne)
      (λ k ne ne'. ap (λ x. cond x (c i) 0) (ne_eqb k j ne) ∙ sym (ap (λ x. cond x (c (suc i)) 0) (ne_eqb k (first + suc i) (λ f. ne' (f ∙ next_is))))))
      text most
      (let it = followed text r ny nz most e a b y k (digits.own j lt) (digits.other j lt) (digits.lane j lt) (small i (omega arith)) in
      subst (λ us. comes lows highs text 6 us (worked r v d s first z (suc i) j d ∷ worked r v d s first z (suc i) j s ∷ worked r v d s first z (suc i) j 3 ∷ worked r v d s first z (suc i) j 6 ∷ worked r v d s first z (suc i) j 9 ∷ worked r v d s first z (suc i) (suc j) 9 ∷ worked r v d s first z (suc i) j 5 ∷ []) most ≡ true) (sym w0)
      (subst (λ us. comes lows highs text 6 (a ∷ b ∷ 0 ∷ y ∷ k ∷ 0 ∷ 1 ∷ []) us most ≡ true) (sym w1) it))

  pub columns_worked : (text : Text) (most : ℕ) → first ≤ 12 → v 12 5 ≡ 0 → follows text r ny nz most ≡ true
      → Does input (onwards_code (body_of d s text)) (guide 5 12 first) (sheet t (worked r v d s first z 0)) 5 (sheet t (worked r v d s first z (12 - first))) ((12 - first) * (most + 11) + 1)
  columns_worked text most le stop e =
      let n : ℕ = 12 - first in
      let at : ℕ → Tape = λ i. sheet t (worked r v d s first z i) in
      let guide_is : (i j : ℕ) → j ≤ 12 → get (at i) (lane_cell 5 j) ≡ v j 5 = λ i j lj. get_sheet t (worked r v d s first z i) 5 j (omega arith) lj ∙ other_lane v d rd (since first i (made r.own r v d s first z) (λ k. v k d)) (since first i (made r.spare r v d s first z) (λ k. 0)) (since first i (made r.lane r v d s first z) (λ k. v k 6)) (λ k. cond (nat_eq k (first + i)) (c i) 0) j 5 (λ f. absurd (omega arith)) (λ f. absurd (omega arith)) (λ f. absurd (omega arith)) (λ f. rd.no_guide (sym f)) in
      let columns : Columns input (body_of d s text) 5 n most at = record {
        balanced = spelled_balanced (cells_of d s) 6 text;
        on = λ i lt x. let g : guide 5 n i ≡ lane_cell 5 (first + i) = omega arith in absurd (omega (arith, guide_is i (first + i) (omega arith), guides (first + i) (omega arith), ap (get (at i)) g, x));
        over = guide_is n 12 (omega arith) ∙ stop;
        does = λ i lt. let g : guide 5 12 (first + i) ≡ guide 5 n i = omega arith in between (guide 5 n i) (guide 5 n i) (column_worked text most i (omega arith) e) g g;
      } in
      let g : 5 + 10 * n ≡ guide 5 12 first = omega arith in
      between (guide 5 12 first) 5 (onwards input (body_of d s text) 5 n most at columns) g refl

pub columns_are_worked : ColumnsAreWorked
columns_are_worked input t v d s first z ny nz most text r rd rs differ le lz guided digits carries e =
    columns_worked input t v d s first z ny nz r rd rs differ lz digits guided.guides carries text most le guided.stop e
