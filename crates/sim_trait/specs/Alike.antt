-- Two moments of two machines, of which one follows the other.
use Rattle.std.specs.Prelude.{◌≡◌, ◌≢◌, ℕ, ◌↔◌}
use Rattle.mach_core.specs.declared.machine.Status.TheVariants.{Ended, Fault}
use Rattle.mach_core.specs.Rule.{Rule, Moment}

-- related configurations, with the same bytes taken and written
pub record Alike {C D : Type 0} (R : C → D → Type 0) (s : Moment C) (t : Moment D) : Type 0 where
  pub related : R s.config t.config
  pub taken : t.taken ≡ s.taken
  pub output : t.output ≡ s.output

-- the second is at no fault, and has ended exactly if the first has
pub record StandsAs {C D : Type 0} (source : Rule C) (target : Rule D) (c : C) (d : D) : Type 0 where
  pub no_fault : (code : ℕ) → target.standing d ≢ Fault code
  pub ended : (target.standing d ≡ Ended) ↔ (source.standing c ≡ Ended)

-- what can be seen of the second is what can be seen of the first
pub record Shows {C D : Type 0} (source : Rule C) (target : Rule D) (s : Moment C) (t : Moment D) : Type 0 where
  pub taken : t.taken ≡ s.taken
  pub output : t.output ≡ s.output
  pub stands : StandsAs source target s.config t.config
