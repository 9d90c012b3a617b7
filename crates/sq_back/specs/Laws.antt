-- Laws of the translation.
use Rattle.std.specs.Prelude.{◌≡◌, ℕ, ◌≤◌, ◌^◌, false, List}
use Rattle.mach_core.specs.declared.machine.Status.TheVariants.{Going}
use Rattle.mach_core.specs.Rule.{Moment, IsInput, applied, run_from}
use Rattle.eir_core.specs.Eir.{Eir, IsEir, size_of}
use Rattle.eir_core.specs.Step.{Config, eir_rule}
use Rattle.sim_trait.specs.Alike.{Alike}
use Rattle.sim_trait.specs.Laws.{Simulates, IsSharp, TranslatesSharply}
use Rattle.sq_lang.specs.Text.{sq_spells}
use Rattle.sq_lang.specs.Step.{Config as SqConfig, sq_rule, sq_start}
use Rattle.sq_back.specs.Code.{image_of}
use Rattle.sq_back.specs.Related.{Related}
use Rattle.sq_back.specs.Slowdown.{subleq_slowdown}

-- the image of each program that is not too large does what the program does
abbrev pub ImageSimulates : Type 0
ImageSimulates =
    (p : Eir) → IsEir p → size_of p ≤ 2 ^ 16 → Simulates (sq_rule (image_of p)) (sq_start (image_of p)) (Related p (image_of p)) subleq_slowdown p

-- and does it sharply: no step looks for its block
abbrev pub ImageIsSharp : Type 0
ImageIsSharp =
    (p : Eir) → IsEir p → size_of p ≤ 2 ^ 16 → IsSharp (sq_rule (image_of p)) (sq_start (image_of p)) (Related p (image_of p)) subleq_slowdown.factor false p

-- a text of the image of a program
abbrev pub StandsFor : Eir → List ℕ → Type 0
StandsFor p text = TranslatesSharply sq_spells sq_rule sq_start Related subleq_slowdown false p text (image_of p)

-- each step of the program is followed by 32 steps at most
abbrev pub FewStepsFollow : Type 0
FewStepsFollow =
    (p : Eir) (input : List ℕ) (s : Moment Config) (m : Moment SqConfig) → IsEir p → size_of p ≤ 2 ^ 16 → IsInput input
    → Alike (Related p (image_of p)) s m → (eir_rule p).standing s.config ≡ Going
    → (k : ℕ) × (1 ≤ k) × (k ≤ 32) × Alike (Related p (image_of p)) (applied (eir_rule p) input s) (run_from (sq_rule (image_of p)) input m k)
