-- The languages: which program a text spells, what comes out where it is refused, and how its programs run.
use Rattle.std.specs.Prelude.{◌≡◌, ◌≤◌, ◌⊎◌, ◌^◌, ℕ, List}
use Rattle.mach_core.specs.Rule.{Rule}
use Rattle.eir_core.specs.Eir.{Eir, size_of}
use Rattle.eir_core.specs.Step.{eir_rule, eir_start}
use Rattle.eir_opt.specs.Optimised.{optimised}
use Rattle.eir_print.specs.Printed.{printed}
use Rattle.eir_text.specs.Spells.{IsRefusedBy, Spells}
use Rattle.bf_lang.specs.Text.{IsRefusedFor as IsNoBrainfuck}
use Rattle.piet_image.specs.Text.{IsRefusedFor as IsNoImage}
use Rattle.sq_lang.specs.Answers.{IsRefusedFor}
use Rattle.ws_lang.specs.Refusal.{IsRefused}
use Rattle.wasm_bin.specs.declared.module.Module.{Module}
use Rattle.wasm_bin.specs.Module.{module_spells, IsRefusedFor as IsNoModule}
use Rattle.wasm_valid.specs.Rules.{IsValid, IsRefused as IsInvalid}
use Rattle.wasm_rule.specs.Refusals.{IsRefusedFor as IsUnlinkable}
use Rattle.elvm_cli.specs.Refusals.{bf_refusal, eir_refusal, image_refusal, link_refusal, module_refusal, sq_refusal, valid_refusal, ws_refusal}
use Rattle.elvm_cli.specs.Runs.{Runs, runs_by}
use Rattle.elvm_cli.specs.Shows.{IsRefusedAs}
use Rattle.elvm_cli.specs.declared.outcome.Outcome.{Outcome}

-- a machine goes by the rule of a program of this kind, and stands at its start
pub record StandsAtStart {P C : Type 0} (IsOf : P → Type 0) (rule : P → Rule C) (start : P → C) (own : Rule C) (now : C) : Type 0 where
  pub program : P
  pub is_of : IsOf program
  pub goes : own ≡ rule program
  pub stands : now ≡ start program

-- ---- EIR

-- the text spells this EIR program, which isn't too large
abbrev pub EirSpells : List ℕ → Eir → Type 0
EirSpells text program = Spells text program × (size_of program ≤ 2 ^ 21)

-- the EIR text is refused, and this comes out
abbrev pub EirRefused : List ℕ → Outcome → Type 0
EirRefused text outcome = IsRefusedAs (λ fault. IsRefusedBy fault text) eir_refusal outcome

-- the text that `opt` makes of an EIR program: it is folded, trimmed and printed
abbrev pub optimised_text : Eir → List ℕ
optimised_text program = printed (optimised program)

-- the runs of an EIR program
abbrev pub eir_runs : Eir → Runs
eir_runs program = runs_by (eir_rule program) (eir_start program)

-- ---- the targets

-- the Brainfuck text is refused, and this comes out
abbrev pub BfRefused : List ℕ → Outcome → Type 0
BfRefused text outcome = IsRefusedAs (IsNoBrainfuck text) bf_refusal outcome

-- the Whitespace text is refused, and this comes out
abbrev pub WsRefused : List ℕ → Outcome → Type 0
WsRefused text outcome = IsRefusedAs (IsRefused text) ws_refusal outcome

-- the SUBLEQ text is refused, and this comes out
abbrev pub SqRefused : List ℕ → Outcome → Type 0
SqRefused text outcome = IsRefusedAs (IsRefusedFor text) sq_refusal outcome

-- the text is no image of codels of this size, and this comes out
abbrev pub PietRefused : ℕ → List ℕ → Outcome → Type 0
PietRefused codel text outcome = IsRefusedAs (IsNoImage text codel) image_refusal outcome

-- the bytes are no module, and this comes out
abbrev pub BytesRefused : List ℕ → Outcome → Type 0
BytesRefused bytes outcome = IsRefusedAs (IsNoModule bytes) module_refusal outcome

-- the module is not valid or can't be run here, and this comes out
abbrev pub ModuleRefused : Module → Outcome → Type 0
ModuleRefused m outcome = IsRefusedAs (IsInvalid m) valid_refusal outcome ⊎ (IsValid m × IsRefusedAs (IsUnlinkable m) link_refusal outcome)

-- the bytes are refused, or the module that they are, and this comes out
abbrev pub WasmRefused : List ℕ → Outcome → Type 0
WasmRefused bytes outcome = BytesRefused bytes outcome ⊎ ((m : Module) × module_spells bytes m × ModuleRefused m outcome)
