-- What a target's program for a program of C does at each of its moments.
use Rattle.std.proofs.Common.{◌≡◌, ◌≢◌, ℕ, ◌^◌, ◌<◌, ◌≤◌, List, refl, sym, ap, ◌∙◌, subst, arith, mul-le-mul}
use Rattle.mach_core.specs.declared.machine.Status.{Status}
use Rattle.mach_core.specs.declared.machine.Status.TheVariants as status
use Rattle.mach_core.specs.Rule.{Rule, Moment, IsInput, run, at_start}
use Rattle.mach_core.proofs.Runs.{run_from-over}
use Rattle.mach_core.proofs.Growing.{output_grows_to, taken_grows_to}
use Rattle.eir_core.specs.Eir.{size_of}
use Rattle.c_syntax.specs.Plain.{CUnit}
use Rattle.c_eval.specs.Meaning.{End, Ended, Going, Undefined, meaning_of}
use Rattle.c_followed.specs.Faithful.{IsAfter}
use Rattle.sim_trait.specs.Bound.{Slowdown, Bound}
use Rattle.sim_trait.specs.Faithful.{Follows}
use Rattle.sim_trait.proofs.Consequence.{followed_run}
use Rattle.sim_bounds.specs.Closed.{most_steps, IsClosed}
use Rattle.c_compiled.specs.Compiled.{compiled, steps_for, IsCompiledOnBytes}
use Rattle.c_compiled.specs.Built.{StandsSo, ShowsMeaning}
use Rattle.c_compiled.specs.Moments.{IsDefined, HasEndedWith, RunsAsItsSource, MomentsAreBounded, EndsInTime}
use Rattle.c_compiled.proofs.Built.{shows_the_meaning}

-- short of an undefined act the units of fuel are spent
spent : (end : End) (fuel n : ℕ) → IsDefined end → IsAfter end fuel n → fuel ≤ n
spent (Undefined act) fuel n defined after = absurd defined
spent Ended fuel n defined after = after
spent Going fuel n defined after = after

-- what has neither ended nor met a fault goes on
goes : (s : Status) → s ≢ status.Ended → ((code : ℕ) → s ≢ status.Fault code) → s ≡ status.Going
goes status.Going ended fault = refl
goes status.Ended ended fault = absurd (ended refl)
goes (status.Fault code) ended fault = absurd (fault code refl)

ended_is_over : (s : Status) → s ≡ status.Ended → s ≢ status.Going
ended_is_over s e g = cc (sym e ∙ g)

module _ {D : Type 0} (target : Rule D) (first : D) (input : List ℕ) where
  -- what has ended stays as it is
  stays : (k n : ℕ) → k ≤ n → target.standing (run target first input k).config ≡ status.Ended → run target first input n ≡ run target first input k
  stays k n le ended = run_from-over target input (at_start first) k n le (ended_is_over (target.standing (run target first input k).config) ended)

  -- so it has ended at each later moment, with the same
  ended_from : (most : Bound) (u : CUnit) (fuel k : ℕ) (shown : ShowsMeaning target first most u input fuel) → (meaning_of u input fuel).end ≡ Ended → shown.moment ≤ k → HasEndedWith target (run target first input k) (meaning_of u input fuel)
  ended_from most u fuel k shown over late =
      let there : target.standing (run target first input shown.moment).config ≡ status.Ended = subst (λ e. StandsSo e (target.standing (run target first input shown.moment).config)) over shown.stands in
      subst (λ (m : Moment D). HasEndedWith target m (meaning_of u input fuel)) (sym (stays shown.moment k late there))
      (record { ended = there; output = shown.output; taken = shown.taken })

  -- what goes on at a later moment hasn't ended
  not_ended : (most : Bound) (u : CUnit) (k : ℕ) (shown : ShowsMeaning target first most u input k) → (meaning_of u input k).end ≡ Going → target.standing (run target first input k).config ≢ status.Ended
  not_ended most u k shown going ended =
      let le : k ≤ shown.moment = subst (λ e. IsAfter e k shown.moment) going shown.after in
      let same : run target first input shown.moment ≡ run target first input k = stays k shown.moment le ended in
      let on : target.standing (run target first input shown.moment).config ≢ status.Ended = subst (λ e. StandsSo e (target.standing (run target first input shown.moment).config)) going shown.stands in
      on (ap (λ (m : Moment D). target.standing m.config) same ∙ ended)

pub runs_as_its_source : {D : Type 0} (target : Rule D) (first : D) (most : Bound) (u : CUnit) → Follows target first most (compiled u) → IsCompiledOnBytes u → (input : List ℕ) → IsInput input → RunsAsItsSource target first most u input
runs_as_its_source target first most u follows behaves input bytes =
    let shown : (fuel : ℕ) → ShowsMeaning target first most u input fuel = λ fuel. shows_the_meaning target first most u follows behaves input fuel bytes in
    let no_fault = (followed_run target first most (compiled u) follows input bytes).no_fault in
    record {
      prefix = λ k defined.
          let grows = output_grows_to target first input k (shown k).moment (spent (meaning_of u input k).end k (shown k).moment defined (shown k).after) in
          (grows.0, grows.1 ∙ (shown k).output);
      taken = λ k defined.
          let grows = taken_grows_to target first input k (shown k).moment (spent (meaning_of u input k).end k (shown k).moment defined (shown k).after) in
          omega (arith, grows.0, (shown k).taken);
      goes_on = λ k going. goes (target.standing (run target first input k).config) (not_ended target first input most u k (shown k) going) (no_fault k);
      no_fault = no_fault;
      ends = λ fuel over. (
        (shown fuel).steps,
        (shown fuel).few,
        λ k late. ended_from target first input most u fuel k (shown fuel) over (omega (arith, (shown fuel).within, late)),
      );
    }

-- more steps take no less
more_steps : (t : Slowdown) (size n k : ℕ) → n ≤ k → most_steps t size n ≤ most_steps t size k
more_steps t size n k le = mul-le-mul (omega arith) (omega (arith, le))

pub moments_are_bounded : {D : Type 0} (target : Rule D) (first : D) (most : Bound) (t : Slowdown) (size : ℕ) (u : CUnit) → IsClosed t most → size_of (compiled u) ≤ size → size < 2 ^ 23 → MomentsAreBounded target first most t size u
moments_are_bounded target first most t size u closed fits small input fuel shown =
    omega (arith, shown.within, closed (compiled u) input size shown.steps fits small, more_steps t size shown.steps (steps_for u fuel) shown.few)

pub ends_in_time : {D : Type 0} (target : Rule D) (first : D) (most : Bound) (t : Slowdown) (size : ℕ) (u : CUnit) → Follows target first most (compiled u) → IsCompiledOnBytes u → IsClosed t most → size_of (compiled u) ≤ size → size < 2 ^ 23 → EndsInTime target first t size u
ends_in_time target first most t size u follows behaves closed fits small input fuel k bytes over late =
    let shown = shows_the_meaning target first most u follows behaves input fuel bytes in
    ended_from target first input most u fuel k shown over (omega (arith, moments_are_bounded target first most t size u closed fits small input fuel shown, late))
