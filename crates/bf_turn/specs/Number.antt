-- The numbers of operations.
use Rattle.std.specs.Prelude.{ℕ, ◌+◌, Bool, true, false, cond, nat_lt, List, [], ◌∷◌, length, take, sum_by, flat_map}
use Rattle.eir_core.specs.declared.ops.Op.{Op}
use Rattle.eir_core.specs.declared.ops.Op.TheVariants.{JumpIf}
use Rattle.eir_core.specs.Eir.{Eir}
use Rattle.sim_trait.specs.Digits.{digit_count}
use Rattle.bf_ops.specs.Perform.{asks}

-- how many operations a program has
abbrev pub op_count : Eir → ℕ
op_count p = sum_by length p.blocks

-- the number of an operation, counted through all blocks from 1 on, and 0 for the end
abbrev pub number_at : Eir → ℕ → ℕ → ℕ
number_at p block index = cond (nat_lt block (length p.blocks)) (sum_by length (take block p.blocks) + index + 1) 0

-- the numbers of the first operations of blocks, counted from a number on
abbrev pub first_numbers : ℕ → List (List Op) → List ℕ
first_numbers n [] = []
first_numbers n (ops ∷ blocks) = n ∷ first_numbers (n + length ops) blocks

-- the number that follows, where the last operation has a number
abbrev pub following : ℕ → ℕ → ℕ
following last n = cond (nat_lt n last) (n + 1) 0

-- the binary digits of the numbers of a program
abbrev pub digits_in : Eir → ℕ
digits_in p = digit_count (op_count p)

-- whether one of some operations is as a test wants it
abbrev pub any_of : (Op → Bool) → List Op → Bool
any_of test [] = false
any_of test (op ∷ ops) = cond (test op) true (any_of test ops)

-- whether one of some operations asks for memory, and whether a program does
abbrev pub any_asks : List Op → Bool
any_asks ops = any_of asks ops

abbrev pub accesses : Eir → Bool
accesses p = any_asks (flat_map (λ ops. ops) p.blocks)

-- whether an operation is a conditional jump, whether one of some is, and whether one of a program's is
abbrev pub is_branch : Op → Bool
is_branch (JumpIf test v x w) = true
is_branch _ = false

abbrev pub any_branches : List Op → Bool
any_branches ops = any_of is_branch ops

abbrev pub branches : Eir → Bool
branches p = any_branches (flat_map (λ ops. ops) p.blocks)
