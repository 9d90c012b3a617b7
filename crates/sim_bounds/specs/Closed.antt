-- Bounds on a target's steps, as numbers.
use Rattle.std.specs.Prelude.{ℕ, ◌+◌, ◌*◌, ◌^◌, ◌<◌, ◌≤◌, Bool, cond, length, List}
use Rattle.eir_core.specs.Eir.{Eir, size_of}
use Rattle.eir_core.specs.Reach.{reach}
use Rattle.sim_trait.specs.Bound.{Slowdown, Bound, bound, sharp_bound}

-- a program whose data words fill no more than half of the memory reaches no farther
abbrev pub ProgramsReachHalf : Type 0
ProgramsReachHalf = (p : Eir) (input : List ℕ) (n : ℕ) → length p.words < 2 ^ 23 → reach p input n < 2 ^ 23

-- the most steps of a target for the first n steps of a program of this size, however far it reaches
abbrev pub most_steps : Slowdown → (size n : ℕ) → ℕ
most_steps t size n = t.factor * (size + 1) * cond t.by_reach (2 ^ 23) 1 * (n + 1)

-- a bound gives no more, whatever the program of at most this size and the input
abbrev pub IsClosed : Slowdown → Bound → Type 0
IsClosed t most = (p : Eir) (input : List ℕ) (size n : ℕ) → size_of p ≤ size → size < 2 ^ 23 → most p input n ≤ most_steps t size n

-- so it is with the bound of each target, and with those of the sharp ones
pub record BoundsAreClosed : Type 0 where
  pub general : (t : Slowdown) → IsClosed t (bound t)
  pub sharp : (t : Slowdown) (by_digits : Bool) → IsClosed t (sharp_bound t by_digits)
