-- The cells that a program begins with: its numbers from 0 on, and 0 behind them.
use Rattle.std.proofs.Common.{◌≡◌, ◌≢◌, ℕ, zero, suc, ◌+◌, Bool, true, false, cond, List, [], ◌∷◌, Option, None, Some, slice_get, unwrap_or, ℤ, pos, negsuc, refl, ap, ◌∙◌, nat_eq, nat_cmp, eq-eqb, arith, add-zero}
use Rattle.std.specs.FinMap as map
use Rattle.std.specs.Cmp.{nat_cmp_total, unsigned_tied}
use Rattle.sq_lang.specs.Step.{CellMap, cell_at, with_cell, cells_from, sq_start}

cond_or : (b : Bool) (o u : Option ℤ) → unwrap_or (cond b o u) (pos 0) ≡ cond b (unwrap_or o (pos 0)) (unwrap_or u (pos 0))
cond_or true o u = refl
cond_or false o u = refl

removed : (cells : CellMap) (a q : ℕ) → cell_at (map.remove cells a) q ≡ cond (nat_eq q a) (pos 0) (cell_at cells q)
removed cells a q =
    ap (λ o. unwrap_or o (pos 0)) (map.get-remove nat_cmp_total cells a q)
    ∙ (cond_or _ None (map.get cells q) ∙ ap (λ b. cond b (pos 0) (cell_at cells q)) (unsigned_tied q a))

inserted : (cells : CellMap) (a : ℕ) (v : ℤ) (q : ℕ) → cell_at (map.insert cells a v) q ≡ cond (nat_eq q a) v (cell_at cells q)
inserted cells a v q =
    ap (λ o. unwrap_or o (pos 0)) (map.get-insert nat_cmp_total cells a v q)
    ∙ (cond_or _ (Some v) (map.get cells q) ∙ ap (λ b. cond b v (cell_at cells q)) (unsigned_tied q a))

-- the cell that was stored has its value, and each other one what it had
pub cell_at-with_cell : (cells : CellMap) (a : ℕ) (v : ℤ) (q : ℕ) → cell_at (with_cell cells a v) q ≡ cond (nat_eq q a) v (cell_at cells q)
cell_at-with_cell cells a (pos zero) q = removed cells a q
cell_at-with_cell cells a (pos (suc n)) q = inserted cells a (pos (suc n)) q
cell_at-with_cell cells a (negsuc n) q = inserted cells a (negsuc n) q

pub stored_same : (cells : CellMap) (a : ℕ) (v : ℤ) → cell_at (with_cell cells a v) a ≡ v
stored_same cells a v = cell_at-with_cell cells a v a ∙ ap (λ b. cond b v (cell_at cells a)) (eq-eqb a a refl)

pub stored_other : (cells : CellMap) (a : ℕ) (v : ℤ) (q : ℕ) → q ≢ a → cell_at (with_cell cells a v) q ≡ cell_at cells q
stored_other cells a v q other =
    let test : nat_eq q a ≡ false = grind arith in
    cell_at-with_cell cells a v q ∙ ap (λ b. cond b v (cell_at cells q)) test

laid : (values : List ℤ) (k a : ℕ) → cell_at (cells_from k values) (k + a) ≡ unwrap_or (slice_get values a) (pos 0)
laid [] k a = ap (λ o. unwrap_or o (pos 0)) (map.get-empty nat_cmp (k + a))
laid (v ∷ values) k zero = rw (add-zero k) (stored_same (cells_from (k + 1) values) k v)
laid (v ∷ values) k (suc a) =
    let other : k + suc a ≢ k = omega arith in
    let next : k + suc a ≡ k + 1 + a = omega arith in
    stored_other (cells_from (k + 1) values) k v (k + suc a) other
    ∙ (ap (cell_at (cells_from (k + 1) values)) next ∙ laid values (k + 1) a)

-- at each address a program begins with its number of that place, and with 0 where it has none
pub cells_stand_from_zero : (program : List ℤ) (address : ℕ) → cell_at (sq_start program).cells address ≡ unwrap_or (slice_get program address) (pos 0)
cells_stand_from_zero program address =
    let e : address ≡ 0 + address = omega arith in
    ap (cell_at (cells_from 0 program)) e ∙ laid program 0 address
