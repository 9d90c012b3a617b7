-- A text stands for a program.
use Rattle.std.specs.Prelude.{ℕ, ◌≤◌, ◌^◌, length, List}
use Rattle.mach_core.specs.Rule.{Rule, IsInput, run}
use Rattle.eir_core.specs.Eir.{Eir}
use Rattle.eir_core.specs.Step.{eir_rule, eir_start}
use Rattle.sim_trait.specs.Alike.{Shows}
use Rattle.sim_trait.specs.Bound.{Bound}

-- for each input and each number of steps of the program there is a moment of the target, no earlier and within the bound, that shows the same
abbrev pub Follows : {D : Type 0} → Rule D → D → Bound → Eir → Type 0
Follows target first most p =
    (input : List ℕ) (n : ℕ) → IsInput input → (m : ℕ) × (n ≤ m) × (m ≤ most p input n)
    × Shows (eir_rule p) target (run (eir_rule p) (eir_start p) input n) (run target first input m)

-- the text is short, and spells a program of the target that follows this one within the bound
pub record Faithful {Q D : Type 0} (spells : List ℕ → Q → Type 0) (rule : Q → Rule D) (start : Q → D) (most : Bound) (p : Eir) (text : List ℕ) : Type 0 where
  pub short : length text ≤ 2 ^ 29
  pub program : Q
  pub spelled : spells text program
  pub follows : Follows (rule program) (start program) most p
