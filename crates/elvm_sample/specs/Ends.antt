-- When a machine ends.
use Rattle.std.specs.Prelude.{◌≡◌, ℕ, ◌<◌, ◌≤◌, List}
use Rattle.mach_core.specs.declared.machine.Status.TheVariants.{Going, Ended}
use Rattle.mach_core.specs.Rule.{Rule, run}

-- it has ended after so many steps, and is going after each fewer
pub record EndsAfter {C : Type 0} (rule : Rule C) (start : C) (input : List ℕ) (steps : ℕ) : Type 0 where
  pub ended : rule.standing (run rule start input steps).config ≡ Ended
  pub before : (k : ℕ) → k < steps → rule.standing (run rule start input k).config ≡ Going

-- it has ended after so many steps or fewer
abbrev pub EndsWithin : {C : Type 0} → Rule C → C → List ℕ → ℕ → Type 0
EndsWithin rule start input most = (k : ℕ) × (k ≤ most) × (rule.standing (run rule start input k).config ≡ Ended)
