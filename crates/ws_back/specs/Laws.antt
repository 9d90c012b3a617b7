-- Laws of the translation.
use Rattle.std.specs.Prelude.{◌≡◌, ℕ, ◌+◌, ◌*◌, ◌≤◌, ◌^◌, true, List, length}
use Rattle.std.specs.declared.option.Option.{Option}
use Rattle.std.specs.Prelude.{Some}
use Rattle.mach_core.specs.declared.machine.Status.TheVariants.{Going}
use Rattle.mach_core.specs.Rule.{Moment, IsInput, applied, run_from}
use Rattle.eir_core.specs.declared.ops.Op.{Op}
use Rattle.eir_core.specs.declared.ops.Op.TheVariants.{Jump, JumpIf}
use Rattle.eir_core.specs.declared.ops.Operand.TheVariants.{Reg as register}
use Rattle.eir_core.specs.Eir.{Eir, IsEir, size_of}
use Rattle.eir_core.specs.Step.{Config, op_at, eir_rule}
use Rattle.sim_trait.specs.Alike.{Alike}
use Rattle.sim_trait.specs.Digits.{digit_count}
use Rattle.sim_trait.specs.Laws.{Simulates, IsSharp, TranslatesSharply}
use Rattle.ws_lang.specs.Spelling.{ws_spells}
use Rattle.ws_lang.specs.Step.{Config as WsConfig, ws_rule, ws_start}
use Rattle.ws_back.specs.Code.{code_of}
use Rattle.ws_back.specs.Related.{Related}
use Rattle.ws_back.specs.Slowdown.{whitespace_slowdown}

-- the code of each program that is not too large does what the program does
abbrev pub CodeSimulates : Type 0
CodeSimulates =
    (p : Eir) → IsEir p → size_of p ≤ 2 ^ 17 → Simulates (ws_rule (code_of p)) (ws_start (code_of p)) (Related p (code_of p)) whitespace_slowdown p

-- and does it sharply, where the number of blocks counts by its binary digits
abbrev pub CodeIsSharp : Type 0
CodeIsSharp =
    (p : Eir) → IsEir p → size_of p ≤ 2 ^ 17 → IsSharp (ws_rule (code_of p)) (ws_start (code_of p)) (Related p (code_of p)) whitespace_slowdown.factor true p

-- a text of the code of a program
abbrev pub StandsFor : Eir → List ℕ → Type 0
StandsFor p text = TranslatesSharply ws_spells ws_rule ws_start Related whitespace_slowdown true p text (code_of p)

-- the most steps in which an operation looks up its block among so many: none, if no register has the block's number
abbrev pub looking_up : ℕ → Option Op → ℕ
looking_up n (Some (Jump (register r))) = 6 * digit_count n + 8
looking_up n (Some (JumpIf test (register r) s v)) = 6 * digit_count n + 8
looking_up n _ = 0

-- a step of the program is followed by 24 steps at most, besides those in which its operation looks up its block
abbrev pub FewStepsFollow : Type 0
FewStepsFollow =
    (p : Eir) (input : List ℕ) (s : Moment Config) (m : Moment WsConfig) → IsEir p → size_of p ≤ 2 ^ 17 → IsInput input
    → Alike (Related p (code_of p)) s m → (eir_rule p).standing s.config ≡ Going
    → (k : ℕ) × (1 ≤ k) × (k ≤ 24 + looking_up (length p.blocks) (op_at p s.config)) × Alike (Related p (code_of p)) (applied (eir_rule p) input s) (run_from (ws_rule (code_of p)) input m k)
