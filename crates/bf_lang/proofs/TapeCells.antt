-- A tape that begins with the cells of a list.
use Rattle.std.proofs.Common.{◌≡◌, ◌≢◌, ◌⊎◌, inl, inr, ℕ, zero, suc, ◌+◌, ◌-◌, ◌<◌, ◌≤◌, Bool, true, false, cond, List, [], ◌∷◌, ◌++◌, length, get_or, set, Option, None, Some, unwrap_or, refl, sym, ap, ◌∙◌, nat_eq, nat_cmp, arith, zero-add}
use Rattle.std.specs.FinMap as map
use Rattle.std.specs.Cmp.{nat_cmp_total, unsigned_tied}
use Rattle.std.proofs.lemmas.List.{get_or_past, get_or-set_same, get_or-set_other, get_or_append_left, get_or-append_right}
use Rattle.bf_lang.specs.Cells.{Cells, cell_at, with_cell, cells_from}

-- a cell as a map keeps it
abbrev kept : ℕ → Option ℕ
kept zero = None
kept (suc n) = Some (suc n)

kept_cell : (n : ℕ) → unwrap_or (kept n) 0 ≡ n
kept_cell zero = refl
kept_cell (suc n) = refl

get-with_cell : (m : Cells) (a n q : ℕ) → map.get (with_cell m a n) q ≡ cond (nat_eq q a) (kept n) (map.get m q)
get-with_cell m a zero q = map.get-remove nat_cmp_total m a q ∙ ap (λ b. cond b None (map.get m q)) (unsigned_tied q a)
get-with_cell m a (suc n) q =
    let test : nat_eq 0 (suc n) ≡ false = grind arith in
    ap (λ b. map.get (cond b (map.remove m a) (map.insert m a (suc n))) q) test
    ∙ (map.get-insert nat_cmp_total m a (suc n) q ∙ ap (λ b. cond b (Some (suc n)) (map.get m q)) (unsigned_tied q a))

-- a cell that was put, and another
pub cell-with_cell : (m : Cells) (a n q : ℕ) → cell_at (with_cell m a n) q ≡ cond (nat_eq q a) n (cell_at m q)
cell-with_cell m a n q = ap (λ o. unwrap_or o 0) (get-with_cell m a n q) ∙ by (nat_eq q a) where
  by : (b : Bool) → unwrap_or (cond b (kept n) (map.get m q)) 0 ≡ cond b n (cell_at m q)
  by true = kept_cell n
  by false = refl

get_from : (xs : List ℕ) (a q : ℕ) → map.get (cells_from a xs) (a + q) ≡ kept (get_or xs q 0)
unfolding cells_from
get_from [] a q = map.get-empty nat_cmp (a + q) ∙ sym (ap kept (get_or_past [] q 0 (omega arith)))
get_from (x ∷ xs) a zero =
    let test : nat_eq (a + 0) a ≡ true = grind arith in
    get-with_cell (cells_from (a + 1) xs) a x (a + 0) ∙ ap (λ b. cond b (kept x) (map.get (cells_from (a + 1) xs) (a + 0))) test
get_from (x ∷ xs) a (suc n) =
    let test : nat_eq (a + suc n) a ≡ false = grind arith in
    let on : a + suc n ≡ a + 1 + n = omega arith in
    get-with_cell (cells_from (a + 1) xs) a x (a + suc n)
    ∙ (ap (λ b. cond b (kept x) (map.get (cells_from (a + 1) xs) (a + suc n))) test
    ∙ (ap (map.get (cells_from (a + 1) xs)) on ∙ get_from xs (a + 1) n))

get_tape : (xs : List ℕ) (q : ℕ) → map.get (cells_from 0 xs) q ≡ kept (get_or xs q 0)
get_tape xs q = ap (map.get (cells_from 0 xs)) (sym (zero-add q)) ∙ get_from xs 0 q

pub cell_tape : (xs : List ℕ) (q : ℕ) → cell_at (cells_from 0 xs) q ≡ get_or xs q 0
cell_tape xs q = ap (λ o. unwrap_or o 0) (get_tape xs q) ∙ kept_cell (get_or xs q 0)

-- the same cells make the same tape
pub tape_alike : (xs ys : List ℕ) → ((q : ℕ) → get_or xs q 0 ≡ get_or ys q 0) → cells_from 0 xs ≡ cells_from 0 ys
tape_alike xs ys same = map.same_map nat_cmp_total map.nat_cmp-IsAntisymmetric (cells_from 0 xs) (cells_from 0 ys) (λ q. get_tape xs q ∙ (ap kept (same q) ∙ sym (get_tape ys q)))

same_or_not : (q h : ℕ) → (q ≡ h) ⊎ (q ≢ h)
same_or_not q h = grind arith

-- another number in a cell
pub tape_set : (xs : List ℕ) (h v : ℕ) → h < length xs → with_cell (cells_from 0 xs) h v ≡ cells_from 0 (set xs h v)
tape_set xs h v l = map.same_map nat_cmp_total map.nat_cmp-IsAntisymmetric (with_cell (cells_from 0 xs) h v) (cells_from 0 (set xs h v)) (λ q. get-with_cell (cells_from 0 xs) h v q ∙ (by q (same_or_not q h) ∙ sym (get_tape (set xs h v) q))) where
  by : (q : ℕ) → (q ≡ h) ⊎ (q ≢ h) → cond (nat_eq q h) (kept v) (map.get (cells_from 0 xs) q) ≡ kept (get_or (set xs h v) q 0)
  by q (inl e) =
      let test : nat_eq q h ≡ true = grind arith in
      ap (λ b. cond b (kept v) (map.get (cells_from 0 xs) q)) test ∙ ap kept (sym (ap (λ p. get_or (set xs h v) p 0) e ∙ get_or-set_same xs h v 0 l))
  by q (inr ne) =
      let test : nat_eq q h ≡ false = grind arith in
      ap (λ b. cond b (kept v) (map.get (cells_from 0 xs) q)) test ∙ (get_tape xs q ∙ ap kept (sym (get_or-set_other xs h q v 0 ne)))

low_or_high : (q n : ℕ) → (q < n) ⊎ (n ≤ q)
low_or_high q n = grind arith

-- one more cell of zeros
pub tape_push : (xs : List ℕ) → cells_from 0 (xs ++ 0 ∷ []) ≡ cells_from 0 xs
tape_push xs = tape_alike (xs ++ 0 ∷ []) xs (λ q. by q (low_or_high q (length xs))) where
  by : (q : ℕ) → (q < length xs) ⊎ (length xs ≤ q) → get_or (xs ++ 0 ∷ []) q 0 ≡ get_or xs q 0
  by q (inl l) = get_or_append_left xs (0 ∷ []) 0 q l
  by q (inr l) = get_or-append_right xs (0 ∷ []) (length xs) q 0 refl l ∙ (zeros (q - length xs) ∙ sym (get_or_past xs q 0 l)) where
    zeros : (n : ℕ) → get_or {A = ℕ} (0 ∷ []) n 0 ≡ 0
    zeros zero = refl
    zeros (suc n) = get_or_past [] n 0 (omega arith)

pub tape_none : cells_from 0 [] ≡ map.empty
unfolding cells_from
tape_none = refl
