-- Steps that neither take nor write.
use Rattle.std.proofs.Common.{◌≡◌, ℕ, ◌+◌, [], Bool, true, false, Option, Some, None, Err, refl, sym, ap, ◌∙◌, subst}
use Rattle.std.specs.Prelude.{slice_get}
use Rattle.mach_core.specs.declared.machine.Moved.TheVariants.{Quiet}
use Rattle.mach_core.specs.declared.machine.Status.{Status}
use Rattle.mach_core.specs.declared.machine.Status.TheVariants.{Going, Ended, Fault}
use Rattle.mach_core.specs.Moved.{MovesBy}
use Rattle.mach_core.specs.Silent.{StepsSilently}
use Rattle.mach_core.proofs.Silently.{silent_more}
use Rattle.c_plain.specs.Machine.{Machine, Config, Step, At}
use Rattle.c_plain.specs.Program.{Program}
use Rattle.c_plain.specs.Rule.{takes, wants_in, next_step, step_at, step, rule_of, standing_of}
use Rattle.c_plain.specs.declared.instruction.Instruction.{Instruction}
use Rattle.c_plain.specs.declared.instruction.Instruction.TheVariants as code
use Rattle.c_parts.specs.declared.halt.Halt.{Halt}
use Rattle.c_parts.specs.Parts.{Comes}
use Rattle.c_machine.specs.States.{config_at, HaltsAt}
use Rattle.c_machine.specs.Steps.{is_quiet, step_fed, TakesAs}
use Rattle.c_machine.specs.Silent.{StepsSilentlyTo}

-- a quiet instruction takes nothing
pub quiet_takes : (i : Instruction) → is_quiet i ≡ true → takes (Some i) ≡ false
quiet_takes (code.BuiltIn f a) e = cc
quiet_takes i e = refl

-- one silent step more
pub one_more : (p : Program) (old : Config) (m : Machine) (new : Config) (n : ℕ) → StepsSilently (rule_of p) old n (At m) → StepsSilentlyTo p m new → StepsSilently (rule_of p) old (n + 1) new
one_more p old m new n before s = silent_more (rule_of p) old (At m) new n before refl s.takes (ap (λ (z : Step). z.written) (s.comes 0)) (ap (λ (z : Step). z.config) (s.comes 0))

-- a step that halts
pub halted : (p : Program) (c : Config) (m after : Machine) (fed : ℕ) (halt : Halt) (here standing : Status) → c ≡ config_at here m → standing_of c ≡ Going → Comes m after (Err halt) (step_fed p fed m) → TakesAs (Err halt) (wants_in p (At m)) → HaltsAt halt standing
    → MovesBy (rule_of p) c fed (config_at standing after) Quiet
halted p c m after fed halt Going standing e g comes took at =
    let there : step_fed p fed m ≡ record { config = config_at standing after; written = [] } = at.step m after after (step_fed p fed m) comes in
    subst (λ (k : Config). MovesBy (rule_of p) k fed (config_at standing after) Quiet) (sym e)
    (record {
      config = sym (ap (λ (z : Step). z.config) there);
      bytes = sym (ap (λ (z : Step). z.written) there);
      took = sym (at.takes (wants_in p (At m)) took);
    })
halted p c m after fed halt Ended standing e g comes took at = absurd cc
halted p c m after fed halt (Fault code) standing e g comes took at = absurd cc
