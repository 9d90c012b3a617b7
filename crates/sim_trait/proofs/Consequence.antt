-- What follows for the target's own run.
use Rattle.std.proofs.Common.{◌≡◌, ◌≢◌, ℕ, ◌≤◌, List, sym, ap, ◌∙◌, arith}
use Rattle.mach_core.specs.declared.machine.Status.{Status}
use Rattle.mach_core.specs.declared.machine.Status.TheVariants.{Going, Ended, Fault}
use Rattle.mach_core.specs.Rule.{Rule, Moment, IsInput, run, at_start}
use Rattle.mach_core.proofs.Runs.{run_from-over}
use Rattle.mach_core.proofs.Growing.{output_grows_to, taken_grows_to}
use Rattle.eir_core.specs.Eir.{Eir}
use Rattle.sim_trait.specs.Bound.{Bound}
use Rattle.sim_trait.specs.Faithful.{Follows}
use Rattle.sim_trait.specs.Consequences.{FollowedRun}

pub followed_run : {D : Type 0} (target : Rule D) (first : D) (most : Bound) (p : Eir) → Follows target first most p → (input : List ℕ) → IsInput input → FollowedRun target first most p input
followed_run {D} target first bound p follows input bytes = record {
  prefix = λ k.
      let (m, le, most, shows) = follows input k bytes in
      let grows = output_grows_to target first input k m le in
      (grows.0, grows.1 ∙ shows.output);
  taken = λ k.
      let (m, le, most, shows) = follows input k bytes in
      let grows = taken_grows_to target first input k m le in
      omega (arith, grows.0, shows.taken);
  no_fault = λ k code fault.
      let (m, le, most, shows) = follows input k bytes in
      shows.stands.no_fault code (later k m le (Fault code) fault (λ e. absurd (fault_goes code e)));
  ends_only = λ k over.
      let (m, le, most, shows) = follows input k bytes in
      shows.stands.ended.0 (later k m le Ended over (λ e. absurd (ended_goes e)));
  ends = λ n over.
      let (m, le, most, shows) = follows input n bytes in
      (m, most, shows.stands.ended.1 over, shows.output, shows.taken);
}
  where
    fault_goes : (code : ℕ) → Fault code ≡ Going → ⊥
    fault_goes code e = cc

    ended_goes : Ended ≡ Going → ⊥
    ended_goes e = cc

    -- what is over stands so later too
    later : (k m : ℕ) → k ≤ m → (s : Status) → target.standing (run target first input k).config ≡ s → s ≢ Going → target.standing (run target first input m).config ≡ s
    later k m le s is over =
        let same : run target first input m ≡ run target first input k = run_from-over target input (at_start first) k m le (λ e. over (sym is ∙ e)) in
        ap (λ (x : Moment D). target.standing x.config) same ∙ is
