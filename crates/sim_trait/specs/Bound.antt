-- How many steps of a target stand for how many steps of an EIR program.
use Rattle.std.specs.Prelude.{ℕ, ◌+◌, ◌*◌, Bool, cond, min, length, List}
use Rattle.eir_core.specs.Eir.{Eir, size_of}
use Rattle.eir_core.specs.Reach.{reach}
use Rattle.sim_trait.specs.Digits.{digit_count}

-- how much slower a target's program may be than its EIR program: by a factor, and whether by how far the program reaches into its memory too
pub record Slowdown : Type 0 where
  pub factor : ℕ
  pub by_reach : Bool

-- of a program, an input and a number of its steps: the most steps of the target
abbrev pub Bound : Type 0
Bound = Eir → List ℕ → ℕ → ℕ

-- the target's steps for one step of a program that reaches so far
abbrev pub steps_for_one : Slowdown → Eir → ℕ → ℕ
steps_for_one t p far = t.factor * (size_of p + 1) * cond t.by_reach (far + 1) 1

-- the target's steps for the first n steps of a program
abbrev pub bound : Slowdown → Bound
bound t p input n = steps_for_one t p (reach p input n) * (n + 1)

-- the target's steps for one step of a program: the factor, taken once more for each binary digit of the number of blocks where jumps look for their block
abbrev pub sharp_steps_for_one : ℕ → Bool → Eir → ℕ
sharp_steps_for_one factor by_digits p = factor * cond by_digits (digit_count (length p.blocks) + 1) 1

-- the target's steps for the first n steps of a program, of which only the first of all count the program's size
abbrev pub sharp : ℕ → Bool → Eir → ℕ → ℕ
sharp factor by_digits p n = factor * (size_of p + 1) + sharp_steps_for_one factor by_digits p * (n + 1)

-- both bounds at once
abbrev pub sharp_bound : Slowdown → Bool → Bound
sharp_bound t by_digits p input n = min (bound t p input n) (sharp t.factor by_digits p n)
