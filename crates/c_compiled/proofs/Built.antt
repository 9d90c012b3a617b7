-- What follows the program that is emitted shows what its source means.
use Rattle.std.proofs.Common.{◌≡◌, ℕ, suc, ◌^◌, ◌<◌, ◌≤◌, List, [], ◌∷◌, sym, ◌∙◌, arith}
use Rattle.std.specs.Prelude.{◌↔◌}
use Rattle.std.specs.List.{All}
use Rattle.mach_core.specs.declared.machine.Status.{Status}
use Rattle.mach_core.specs.declared.machine.Status.TheVariants as status
use Rattle.mach_core.specs.Rule.{Rule, run}
use Rattle.eir_core.specs.Eir.{Eir}
use Rattle.eir_core.specs.Step.{eir_rule, eir_start}
use Rattle.c_syntax.specs.Plain.{CUnit}
use Rattle.c_eval.specs.Meaning.{End, Ended, Going, Undefined, Meaning, meaning_of}
use Rattle.c_valid.specs.Valid.{AreBytes}
use Rattle.c_followed.specs.Faithful.{IsAfter, EndsAs}
use Rattle.sim_trait.specs.Bound.{Bound}
use Rattle.sim_trait.specs.Faithful.{Follows}
use Rattle.c_compiled.specs.Compiled.{compiled, IsCompiledOnBytes}
use Rattle.c_compiled.specs.Built.{StandsSo, MeansAsItsSource, WhatIsBuilt}

bytes_are : (xs : List ℕ) → All (λ byte. byte < 2 ^ 8) xs → AreBytes xs
bytes_are [] h = tt
bytes_are (c ∷ cs) h = (h 0 0 (omega arith), bytes_are cs (λ k d less. h (suc k) d (omega (arith, less))))

-- a moment that isn't earlier is after the units of fuel too
later : (end : End) (fuel n m : ℕ) → n ≤ m → IsAfter end fuel n → IsAfter end fuel m
later Ended fuel n m le after = omega (arith, le, after)
later Going fuel n m le after = omega (arith, le, after)
later (Undefined act) fuel n m le after = tt

-- one that goes on hasn't ended
going_not_ended : (s : Status) → s ≡ status.Going → s ≡ status.Ended → ⊥
going_not_ended s g e = cc (sym g ∙ e)

stands_so : (end : End) (s t : Status) → (t ≡ status.Ended) ↔ (s ≡ status.Ended) → EndsAs end s → StandsSo end t
stands_so Ended s t both e = both.1 e
stands_so Going s t both e = λ k. going_not_ended s e (both.0 k)
stands_so (Undefined act) s t both e = tt

pub shows_the_meaning : {D : Type 0} (target : Rule D) (first : D) (most : Bound) (u : CUnit) → Follows target first most (compiled u) → IsCompiledOnBytes u → MeansAsItsSource target first most u
shows_the_meaning {D} target first most u follows behaves input fuel bytes =
    let p : Eir = compiled u in
    let meaning : Meaning = meaning_of u input fuel in
    let source = behaves input (bytes_are input bytes) fuel in
    let n : ℕ = source.0 in
    let shown = follows input n bytes in
    let m : ℕ = shown.0 in
    let shows = shown.3 in
    record {
      steps = n;
      few = source.2;
      moment = m;
      within = shown.2;
      after = later meaning.end fuel n m shown.1 source.1;
      output = shows.output ∙ source.3.output;
      taken = shows.taken ∙ source.3.taken;
      no_fault = shows.stands.no_fault;
      stands = stands_so meaning.end ((eir_rule p).standing (run (eir_rule p) (eir_start p) input n).config) (target.standing (run target first input m).config) shows.stands.ended source.4;
    }

-- so does what a text spells that stands for it
pub what_is_built : {Q D : Type 0} (spells : List ℕ → Q → Type 0) (rule : Q → Rule D) (start : Q → D) (most : Bound) (u : CUnit) (text : List ℕ) → WhatIsBuilt spells rule start most u text
what_is_built spells rule start most u text faithful behaves = (faithful.program, faithful.spelled, shows_the_meaning (rule faithful.program) (start faithful.program) most u faithful.follows behaves)
