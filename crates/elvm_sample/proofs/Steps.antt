-- A machine that is stepped on no input.
use Rattle.std.proofs.Common.{◌≡◌, ◌≢◌, ◌∙◌, ℕ, ◌+◌, ◌<◌, ◌≤◌, true, false, [], nat_lt, refl, sym, ap, subst, arith, add-one, ltb-true, ltb-false}
use Rattle.mach_core.specs.declared.machine.Moved.{Moved}
use Rattle.mach_core.specs.declared.machine.Status.TheVariants.{Going, Ended}
use Rattle.mach_core.specs.Moved.{MovesBy}
use Rattle.mach_core.specs.Rule.{Moment, Rule, at_start, fed_at, run, stepped}
use Rattle.mach_core.proofs.Runs.{applied-going, run_from-over}
use Rattle.elvm_sample.specs.Ends.{EndsAfter, EndsWithin}

ended_goes : Ended ≡ Going → ⊥
ended_goes e = cc

-- an end within a bound isn't where the machine goes on
pub ends_here : {C : Type 0} (rule : Rule C) (start at : C) (count bound : ℕ) → at ≡ (run rule start [] count).config → rule.standing at ≢ Going
    → ((k : ℕ) → k < count → rule.standing (run rule start [] k).config ≡ Going) → EndsWithin rule start [] bound → EndsAfter rule start [] count
ends_here {C} rule start at count bound here still before (k, le, over) =
    elim (nat_lt k count) as (λ t. nat_lt k count ≡ t → EndsAfter rule start [] count) [
      | true ↦ λ e. absurd (ended_goes (sym over ∙ before k (ltb-true k count e)))
      | false ↦ λ e.
          let same = run_from-over rule [] (at_start start) count k (ltb-false k count e) (λ going. still (ap (λ (c : C). rule.standing c) here ∙ going)) in
          record { ended = ap (λ (m : Moment C). rule.standing m.config) (sym same) ∙ over; before = before }
    ] refl
