-- What is asked for allows a status.
use Rattle.std.proofs.Common.{◌≡◌, ◌⊎◌, ◌<◌, ◌≤◌, ◌^◌, ℕ, ℤ, List, None, Some, length, inl, inr, refl}
use Rattle.std.specs.declared.option.Option.{Option}
use Rattle.std.proofs.lemmas.Bool.{cases_lt}
use Rattle.mach_core.specs.Outside.{Texts, text_under}
use Rattle.elvm_words.specs.Invocation.{Invocation, compile, eir, emit, build, evaluate, optimise, run, sample}
use Rattle.elvm_words.specs.declared.request.Target.{Target}
use Rattle.elvm_words.specs.declared.request.Target.TheVariants.{Brainfuck, Whitespace, Subleq, Piet, Wasm}
use Rattle.eir_core.specs.Eir.{Eir, size_of}
use Rattle.bf_lang.specs.declared.command.Command.{Command}
use Rattle.bf_lang.specs.Text.{bf_spells}
use Rattle.bf_lang.specs.Step.{bf_rule, bf_start}
use Rattle.piet_image.specs.Raster.{Raster}
use Rattle.piet_image.specs.Text.{Spells}
use Rattle.piet_lang.specs.Rule.{rule_of, start_of}
use Rattle.sq_lang.specs.Text.{sq_spells}
use Rattle.sq_lang.specs.Step.{sq_rule, sq_start}
use Rattle.wasm_bin.specs.declared.module.Module.{Module}
use Rattle.wasm_rule.specs.Rule.{wasm_rule}
use Rattle.wasm_rule.specs.Spells.{WasmSpells}
use Rattle.wasm_rule.specs.Start.{wasm_start}
use Rattle.ws_lang.specs.Instruction.{Instruction}
use Rattle.ws_lang.specs.Spelling.{ws_spells}
use Rattle.ws_lang.specs.Step.{ws_rule, ws_start}
use Rattle.c_compiled.specs.Compiled.{compiled}
use Rattle.elvm_cli.specs.Runs.{Runs, runs_by}
use Rattle.elvm_cli.specs.Line.{status_of}
use Rattle.elvm_cli.specs.Languages.{BfRefused, EirRefused, EirSpells, PietRefused, SqRefused, WasmRefused, WsRefused, eir_runs}
use Rattle.elvm_cli.specs.Sources.{CRefused, CSpells, c_runs}
use Rattle.elvm_cli.specs.Targets.{emitted_in}
use Rattle.elvm_cli.specs.Exact.{Allows, EmitAllows, FileAllows, PutAllows, RunAllows, TextAllows, standing_status}
use Rattle.elvm_cli.specs.declared.outcome.Outcome.{Outcome}
use Rattle.elvm_cli.proofs.Told.{IsLanguage, IsSpelledOrRefused}
use Rattle.elvm_cli.proofs.Languages.{bf_language, eir_language, piet_language, sq_language, ws_language}
use Rattle.elvm_cli.proofs.Modules.{wasm_language}
use Rattle.elvm_cli.proofs.Sources.{c_language}

-- some status is allowed
abbrev IsAllowed : (ℕ → Type 0) → Type 0
IsAllowed Allowed = (status : ℕ) × Allowed status

-- a text
module _ {P : Type 0} (Spells : List ℕ → P → Type 0) (IsRefused : List ℕ → Outcome → Type 0) (ProgramAllows : P → ℕ → Type 0) (programs : (p : P) → IsAllowed (ProgramAllows p)) where
  decided_allowed : (text : List ℕ) → IsSpelledOrRefused Spells IsRefused text → IsAllowed (TextAllows Spells IsRefused ProgramAllows text)
  decided_allowed text (inl spelled) = let one = programs spelled.0 in (one.0, inl (spelled.0, spelled.1, one.1))
  decided_allowed text (inr refused) = (status_of refused.0, inr (refused.0, refused.1, refused.2, refl))

  text_allowed : IsLanguage Spells IsRefused → (text : List ℕ) → IsAllowed (TextAllows Spells IsRefused ProgramAllows text)
  text_allowed language text = decided_allowed text (language.some text)

-- a text of a program that is run
run_allowed : {P : Type 0} (Spells : List ℕ → P → Type 0) (IsRefused : List ℕ → Outcome → Type 0) → IsLanguage Spells IsRefused → (runs : P → Runs) (i : List ℕ) (steps : ℕ)
    → (text : List ℕ) → IsAllowed (TextAllows Spells IsRefused (λ p. RunAllows i steps (runs p)) text)
run_allowed Spells IsRefused language runs i steps text =
    text_allowed Spells IsRefused (λ p. RunAllows i steps (runs p)) (λ p. (standing_status (runs p i steps).standing, refl)) language text

-- a program that is emitted
emit_by : (limit : ℕ) (p : Eir) → (limit < size_of p) ⊎ (size_of p ≤ limit) → IsAllowed (EmitAllows limit p)
emit_by limit p (inl above) = (8, inr (above, refl))
emit_by limit p (inr within) = (0, inl (within, refl))

-- a file
module _ (OfTextAllows : List ℕ → ℕ → Type 0) (of_text : (text : List ℕ) → IsAllowed (OfTextAllows text)) (file : List ℕ) (texts : Texts) where
  sized_allowed : (text : List ℕ) → text_under file texts ≡ Some text → (2 ^ 29 < length text) ⊎ (length text ≤ 2 ^ 29) → IsAllowed (FileAllows OfTextAllows file texts)
  sized_allowed text is (inl large) = (8, inr (text, is, inl (large, refl)))
  sized_allowed text is (inr short) = let one = of_text text in (one.0, inr (text, is, inr (short, one.1)))

  found_allowed : (found : Option (List ℕ)) → text_under file texts ≡ found → IsAllowed (FileAllows OfTextAllows file texts)
  found_allowed None is = (5, inl (is, refl))
  found_allowed (Some text) is = sized_allowed text is (cases_lt (2 ^ 29) (length text))

  file_allowed : IsAllowed (FileAllows OfTextAllows file texts)
  file_allowed = found_allowed (text_under file texts) refl

-- ---- calls

run_target_allowed : (target : Target) (file : List ℕ) (steps codel : ℕ) (texts : Texts) (i : List ℕ) → IsAllowed (Allows (Some (run target file steps codel)) texts i)
run_target_allowed Brainfuck file steps codel texts i =
    let runs : List Command → Runs = λ code. runs_by (bf_rule code) (bf_start code) in
    file_allowed _ (run_allowed bf_spells BfRefused bf_language runs i steps) file texts
run_target_allowed Piet file steps codel texts i =
    let runs : Raster → Runs = λ image. runs_by (rule_of image) (start_of image) in
    file_allowed _ (run_allowed (λ text. Spells text codel) (PietRefused codel) (piet_language codel) runs i steps) file texts
run_target_allowed Whitespace file steps codel texts i =
    let runs : List Instruction → Runs = λ code. runs_by (ws_rule code) (ws_start code) in
    file_allowed _ (run_allowed ws_spells WsRefused ws_language runs i steps) file texts
run_target_allowed Subleq file steps codel texts i =
    let runs : List ℤ → Runs = λ code. runs_by (sq_rule code) (sq_start code) in
    file_allowed _ (run_allowed sq_spells SqRefused sq_language runs i steps) file texts
run_target_allowed Wasm file steps codel texts i =
    let runs : Module → Runs = λ code. runs_by (wasm_rule code) (wasm_start code) in
    file_allowed _ (run_allowed WasmSpells WasmRefused wasm_language runs i steps) file texts

-- a file of which a program is made that is emitted
made_allowed : {P : Type 0} (Spells : List ℕ → P → Type 0) (IsRefused : List ℕ → Outcome → Type 0) → IsLanguage Spells IsRefused → (program : P → Eir) (limit : ℕ) (file : List ℕ) (texts : Texts)
    → IsAllowed (FileAllows (TextAllows Spells IsRefused (λ p. EmitAllows limit (program p))) file texts)
made_allowed Spells IsRefused language program limit file texts =
    file_allowed _ (text_allowed Spells IsRefused (λ p. EmitAllows limit (program p)) (λ p. emit_by limit (program p) (cases_lt limit (size_of (program p)))) language) file texts

-- a file of which a text is made that is put out
put_allowed : {P : Type 0} (Spells : List ℕ → P → Type 0) (IsRefused : List ℕ → Outcome → Type 0) → IsLanguage Spells IsRefused → (file : List ℕ) (texts : Texts)
    → IsAllowed (FileAllows (TextAllows Spells IsRefused (λ p. PutAllows)) file texts)
put_allowed Spells IsRefused language file texts = file_allowed _ (text_allowed Spells IsRefused (λ p. PutAllows) (λ p. (0, refl)) language) file texts

pub calls_allowed : (asked : Option Invocation) (texts : Texts) (i : List ℕ) → IsAllowed (Allows asked texts i)
calls_allowed None texts i = (2, refl)
calls_allowed (Some (compile file)) texts i = put_allowed CSpells CRefused c_language file texts
calls_allowed (Some (build target file)) texts i = made_allowed CSpells CRefused c_language compiled (emitted_in target).limit file texts
calls_allowed (Some (evaluate file fuel)) texts i = file_allowed _ (run_allowed CSpells CRefused c_language c_runs i fuel) file texts
calls_allowed (Some (optimise file)) texts i = put_allowed EirSpells EirRefused eir_language file texts
calls_allowed (Some (sample blocks)) texts i = (0, refl)
calls_allowed (Some (eir file steps)) texts i = file_allowed _ (run_allowed EirSpells EirRefused eir_language eir_runs i steps) file texts
calls_allowed (Some (emit target file)) texts i = made_allowed EirSpells EirRefused eir_language (λ p. p) (emitted_in target).limit file texts
calls_allowed (Some (run target file steps codel)) texts i = run_target_allowed target file steps codel texts i
