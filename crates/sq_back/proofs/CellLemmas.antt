-- Cells after a write, and one instruction.
use Rattle.std.proofs.Common.{◌≡◌, ℕ, ◌+◌, ◌-◌, ◌^◌, ◌≤◌, true, false, cond, List, [], ◌++◌, None, ap, ◌∙◌, nat_eq, nat_lt, arith, append-nil}
use Rattle.std.specs.Prelude.{ℤ, pos, negsuc, ◌+ℤ◌, ◌-ℤ◌, ◌≤ℤ◌, int_le, if◌then◌else◌}
use Rattle.std.proofs.lemmas.Int.{ints}
use Rattle.std.proofs.lemmas.Bool.{lt-ltb}
use Rattle.mach_core.specs.Rule.{Moment, input_at, applied}
use Rattle.sq_lang.specs.declared.act.Act.{Act}
use Rattle.sq_lang.specs.declared.act.Act.TheVariants.{Stop}
use Rattle.mach_core.specs.Integer.{is_in_range}
use Rattle.sq_lang.specs.Step.{CellMap, Config, cell_at, with_cell, act_of, after, subtracted, at_fault, takes, bytes_of, sq_rule}
use Rattle.sq_lang.proofs.CellsAtStart.{cell_at-with_cell}

-- the cell that is written
pub written : (cells : CellMap) (a : ℕ) (v : ℤ) (q : ℕ) → nat_eq q a ≡ true → cell_at (with_cell cells a v) q ≡ v
written cells a v q e = cell_at-with_cell cells a v q ∙ ap (λ b. cond b v (cell_at cells q)) e

-- any other cell
pub kept : (cells : CellMap) (a : ℕ) (v : ℤ) (q : ℕ) (u : ℤ) → nat_eq q a ≡ false → cell_at cells q ≡ u → cell_at (with_cell cells a v) q ≡ u
kept cells a v q u e is = cell_at-with_cell cells a v q ∙ (ap (λ b. cond b v (cell_at cells q)) e ∙ is)

-- a number that is far from the ends of the range
pub record Small (v : ℤ) : Type 0 where
  pub low : pos 0 ≤ℤ (v +ℤ pos (2 ^ 40))
  pub high : v ≤ℤ pos (2 ^ 40)

pub small_in_range : (v : ℤ) → Small v → is_in_range v ≡ true
small_in_range (pos n) s = lt-ltb n (2 ^ 63) (omega (arith, ints, s.high))
small_in_range (negsuc n) s = lt-ltb n (2 ^ 63) (omega (arith, ints, s.low))

-- a moment at an address, without a fault
abbrev pub at : CellMap → ℕ → List ℕ → ℤ → Moment Config
at cells k o address = record { config = record { address = address; cells = cells; fault = None }; taken = k; output = o }

-- what an act makes of a moment
abbrev pub moved : List ℕ → CellMap → ℕ → List ℕ → ℕ → Act → Moment Config
moved input cells k o i act = record {
  config = after (record { address = pos i; cells = cells; fault = None }) act (cond (takes act) (input_at input k) 0);
  taken = cond (takes act) (k + 1) k;
  output = o ++ bytes_of cells act;
}

-- one instruction
pub one_act : (image : List ℤ) (input : List ℕ) (cells : CellMap) (k : ℕ) (o : List ℕ) (i : ℕ) (x y z : ℤ) → i ≤ 2 ^ 24 → cell_at cells i ≡ x → cell_at cells (i + 1) ≡ y → cell_at cells (i + 2) ≡ z
    → applied (sq_rule image) input (at cells k o (pos i)) ≡ moved input cells k o i (act_of x y z)
one_act image input cells k o i x y z near e f g =
    let early : nat_lt (2 ^ 63 - 4) i ≡ false = grind arith in
    ap (λ t. moved input cells k o i (if t then Stop 2 else act_of (cell_at cells i) (cell_at cells (i + 1)) (cell_at cells (i + 2)))) early
    ∙ (ap (λ u. moved input cells k o i (act_of u (cell_at cells (i + 1)) (cell_at cells (i + 2)))) e
    ∙ (ap (λ u. moved input cells k o i (act_of x u (cell_at cells (i + 2)))) f
    ∙ ap (λ u. moved input cells k o i (act_of x y u)) g))

-- a difference of cells
pub one_difference : (image : List ℤ) (input : List ℕ) (cells : CellMap) (k : ℕ) (o : List ℕ) (i a b : ℕ) (g u w v : ℤ) → i ≤ 2 ^ 24 → cell_at cells i ≡ pos a → cell_at cells (i + 1) ≡ pos b → cell_at cells (i + 2) ≡ g
    → cell_at cells a ≡ u → cell_at cells b ≡ w → w -ℤ u ≡ v → Small v → applied (sq_rule image) input (at cells k o (pos i)) ≡ at (with_cell cells b v) k o (if int_le v (pos 0) then g else pos (i + 3))
one_difference image input cells k o i a b g u w v near e f next from to is small =
    let c : Config = record { address = pos i; cells = cells; fault = None } in
    let there : Config = record { address = if int_le v (pos 0) then g else pos (i + 3); cells = with_cell cells b v; fault = None } in
    let value : cell_at cells b -ℤ cell_at cells a ≡ v = ap (λ y. y -ℤ cell_at cells a) to ∙ (ap (λ y. w -ℤ y) from ∙ is) in
    one_act image input cells k o i (pos a) (pos b) g near e f next
    ∙ (ap (λ d. record { config = subtracted c b d g; taken = k; output = o ++ [] }) value
    ∙ (ap (λ t. record { config = if t then there else at_fault c 2; taken = k; output = o ++ [] }) (small_in_range v small)
    ∙ ap (λ out. record { config = there; taken = k; output = out }) (append-nil o)))
