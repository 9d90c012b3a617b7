-- What is asked for allows one status.
use Rattle.std.proofs.Common.{◌≡◌, ◌∙◌, ℕ, ℤ, List, None, Some, length, sym, ap, subst, inl, inr, arith}
use Rattle.std.specs.declared.option.Option.{Option}
use Rattle.mach_core.specs.Outside.{Texts}
use Rattle.elvm_words.specs.Invocation.{Invocation, compile, eir, emit, build, evaluate, optimise, run, sample}
use Rattle.elvm_words.specs.declared.request.Target.{Target}
use Rattle.elvm_words.specs.declared.request.Target.TheVariants.{Brainfuck, Whitespace, Subleq, Piet, Wasm}
use Rattle.eir_core.specs.Eir.{Eir, size_of}
use Rattle.bf_lang.specs.declared.command.Command.{Command}
use Rattle.bf_lang.specs.Text.{bf_spells}
use Rattle.bf_lang.specs.Step.{bf_rule, bf_start}
use Rattle.piet_image.specs.Raster.{Raster}
use Rattle.piet_image.specs.Text.{Spells}
use Rattle.piet_lang.specs.Rule.{rule_of, start_of}
use Rattle.piet_image.proofs.Decided.{spelled_once as image_once}
use Rattle.sq_lang.specs.Text.{sq_spells}
use Rattle.sq_lang.proofs.Once.{spelled_once}
use Rattle.sq_lang.specs.Step.{sq_rule, sq_start}
use Rattle.wasm_bin.specs.declared.module.Module.{Module}
use Rattle.wasm_rule.specs.Rule.{wasm_rule}
use Rattle.wasm_rule.specs.Spells.{WasmSpells}
use Rattle.wasm_rule.specs.Start.{wasm_start}
use Rattle.ws_lang.specs.Instruction.{Instruction}
use Rattle.ws_lang.specs.Spelling.{signs_of, ws_spells}
use Rattle.ws_lang.proofs.DecodeLemmas.{one_code}
use Rattle.ws_lang.specs.Step.{ws_rule, ws_start}
use Rattle.c_compiled.specs.Compiled.{compiled}
use Rattle.elvm_cli.specs.Runs.{Runs, runs_by}
use Rattle.elvm_cli.specs.Languages.{BfRefused, EirRefused, EirSpells, PietRefused, SqRefused, WasmRefused, WsRefused, eir_runs}
use Rattle.elvm_cli.specs.Sources.{CRefused, CSpells, c_runs}
use Rattle.elvm_cli.specs.Targets.{emitted_in}
use Rattle.elvm_cli.specs.Exact.{Allows, EmitAllows, FileAllows, PutAllows, RunAllows, TextAllows, standing_status}
use Rattle.elvm_cli.specs.declared.outcome.Outcome.{Outcome}
use Rattle.elvm_cli.proofs.Told.{IsLanguage}
use Rattle.elvm_cli.proofs.Languages.{bf_language, bf_spells_once, eir_language, eir_once, piet_language, sq_language, ws_language}
use Rattle.elvm_cli.proofs.Modules.{wasm_language, wasm_once}
use Rattle.elvm_cli.proofs.Sources.{c_language, c_once}

some_same : (x y : List ℕ) → Some x ≡ Some y → x ≡ y
some_same x y e = cc

ws_spells_once : (text : List ℕ) (p q : List Instruction) → ws_spells text p → ws_spells text q → p ≡ q
ws_spells_once text p q hp hq = one_code (signs_of text) p q hp.spelled hq.spelled

-- at most one status is allowed
abbrev IsAlone : (ℕ → Type 0) → Type 0
IsAlone Allowed = (a b : ℕ) → Allowed a → Allowed b → a ≡ b

-- a text
module _ {P : Type 0} (Spells : List ℕ → P → Type 0) (IsRefused : List ℕ → Outcome → Type 0) (language : IsLanguage Spells IsRefused) (ProgramAllows : P → ℕ → Type 0) (text : List ℕ)
    (programs : (p q : P) (a b : ℕ) → Spells text p → Spells text q → ProgramAllows p a → ProgramAllows q b → a ≡ b) where
  text_alone : IsAlone (TextAllows Spells IsRefused ProgramAllows text)
  text_alone a b (inl p) (inl q) = programs p.0 q.0 a b p.1 q.1 p.2 q.2
  text_alone a b (inl p) (inr q) = absurd (language.apart text p.0 q.0 q.1 p.1 q.2)
  text_alone a b (inr p) (inl q) = absurd (language.apart text q.0 p.0 p.1 q.1 p.2)
  text_alone a b (inr p) (inr q) = p.3 ∙ language.one_way text p.0 q.0 p.1 q.1 p.2 q.2 ∙ sym q.3

-- a text of a program that is run
run_alone : {P : Type 0} (Spells : List ℕ → P → Type 0) (IsRefused : List ℕ → Outcome → Type 0) → IsLanguage Spells IsRefused → (runs : P → Runs) (i : List ℕ) (steps : ℕ)
    → ((text : List ℕ) (p q : P) → Spells text p → Spells text q → (runs p i steps).standing ≡ (runs q i steps).standing)
    → (text : List ℕ) → IsAlone (TextAllows Spells IsRefused (λ p. RunAllows i steps (runs p)) text)
run_alone Spells IsRefused language runs i steps same text =
    text_alone Spells IsRefused language (λ p. RunAllows i steps (runs p)) text (λ p q a b hp hq is_a is_b. is_a ∙ ap standing_status (same text p q hp hq) ∙ sym is_b)

-- one program is spelled
once_same : {P : Type 0} (Spells : List ℕ → P → Type 0) (runs : P → Runs) (i : List ℕ) (steps : ℕ) → ((text : List ℕ) (p q : P) → Spells text p → Spells text q → p ≡ q)
    → (text : List ℕ) (p q : P) → Spells text p → Spells text q → (runs p i steps).standing ≡ (runs q i steps).standing
once_same {P} Spells runs i steps once text p q hp hq = ap (λ (x : P). (runs x i steps).standing) (once text p q hp hq)

emit_alone : (limit : ℕ) (p q : Eir) (a b : ℕ) → p ≡ q → EmitAllows limit p a → EmitAllows limit q b → a ≡ b
emit_alone limit p q a b e (inl x) (inl y) = x.1 ∙ sym y.1
emit_alone limit p q a b e (inr x) (inr y) = x.1 ∙ sym y.1
emit_alone limit p q a b e (inl x) (inr y) = absurd (omega (arith, x.0, y.0, ap size_of e))
emit_alone limit p q a b e (inr x) (inl y) = absurd (omega (arith, x.0, y.0, ap size_of e))

-- a file
file_alone : (OfTextAllows : List ℕ → ℕ → Type 0) → ((text : List ℕ) → IsAlone (OfTextAllows text)) → (file : List ℕ) (texts : Texts) → IsAlone (FileAllows OfTextAllows file texts)
file_alone OfTextAllows alone file texts a b (inl x) (inl y) = x.1 ∙ sym y.1
file_alone OfTextAllows alone file texts a b (inl x) (inr y) = let e : None ≡ Some y.0 = sym x.0 ∙ y.1 in cc e
file_alone OfTextAllows alone file texts a b (inr x) (inl y) = let e : None ≡ Some x.0 = sym y.0 ∙ x.1 in cc e
file_alone OfTextAllows alone file texts a b (inr (x, is_x, inl h)) (inr (y, is_y, inl k)) = h.1 ∙ sym k.1
file_alone OfTextAllows alone file texts a b (inr (x, is_x, inr h)) (inr (y, is_y, inr k)) =
    alone x a b h.1 (subst (λ (t : List ℕ). OfTextAllows t b) (some_same y x (sym is_y ∙ is_x)) k.1)
file_alone OfTextAllows alone file texts a b (inr (x, is_x, inl h)) (inr (y, is_y, inr k)) =
    absurd (omega (arith, h.0, k.0, ap length (some_same x y (sym is_x ∙ is_y))))
file_alone OfTextAllows alone file texts a b (inr (x, is_x, inr h)) (inr (y, is_y, inl k)) =
    absurd (omega (arith, h.0, k.0, ap length (some_same x y (sym is_x ∙ is_y))))

-- ---- calls

run_target_alone : (target : Target) (file : List ℕ) (steps codel : ℕ) (texts : Texts) (i : List ℕ) → IsAlone (Allows (Some (run target file steps codel)) texts i)
run_target_alone Brainfuck file steps codel texts i =
    let runs : List Command → Runs = λ code. runs_by (bf_rule code) (bf_start code) in
    file_alone _ (run_alone bf_spells BfRefused bf_language runs i steps (once_same bf_spells runs i steps bf_spells_once)) file texts
run_target_alone Piet file steps codel texts i =
    let runs : Raster → Runs = λ image. runs_by (rule_of image) (start_of image) in
    file_alone _ (run_alone (λ text. Spells text codel) (PietRefused codel) (piet_language codel) runs i steps (once_same (λ text. Spells text codel) runs i steps (λ text. image_once text codel))) file texts
run_target_alone Whitespace file steps codel texts i =
    let runs : List Instruction → Runs = λ code. runs_by (ws_rule code) (ws_start code) in
    file_alone _ (run_alone ws_spells WsRefused ws_language runs i steps (once_same ws_spells runs i steps ws_spells_once)) file texts
run_target_alone Subleq file steps codel texts i =
    let runs : List ℤ → Runs = λ code. runs_by (sq_rule code) (sq_start code) in
    file_alone _ (run_alone sq_spells SqRefused sq_language runs i steps (once_same sq_spells runs i steps spelled_once)) file texts
run_target_alone Wasm file steps codel texts i =
    let runs : Module → Runs = λ code. runs_by (wasm_rule code) (wasm_start code) in
    file_alone _ (run_alone WasmSpells WasmRefused wasm_language runs i steps (once_same WasmSpells runs i steps wasm_once)) file texts

-- a file of which a program is made that is emitted
made_alone : {P : Type 0} (Spells : List ℕ → P → Type 0) (IsRefused : List ℕ → Outcome → Type 0) → IsLanguage Spells IsRefused → ((text : List ℕ) (p q : P) → Spells text p → Spells text q → p ≡ q) → (program : P → Eir) (limit : ℕ)
    → (file : List ℕ) (texts : Texts) → IsAlone (FileAllows (TextAllows Spells IsRefused (λ p. EmitAllows limit (program p))) file texts)
made_alone Spells IsRefused language once program limit file texts =
    file_alone _ (λ text. text_alone Spells IsRefused language (λ p. EmitAllows limit (program p)) text (λ p q a b hp hq. emit_alone limit (program p) (program q) a b (ap program (once text p q hp hq)))) file texts

-- a file of which a text is made that is put out
put_alone : {P : Type 0} (Spells : List ℕ → P → Type 0) (IsRefused : List ℕ → Outcome → Type 0) → IsLanguage Spells IsRefused → (file : List ℕ) (texts : Texts)
    → IsAlone (FileAllows (TextAllows Spells IsRefused (λ p. PutAllows)) file texts)
put_alone Spells IsRefused language file texts = file_alone _ (λ text. text_alone Spells IsRefused language (λ p. PutAllows) text (λ p q a b hp hq x y. x ∙ sym y)) file texts

pub calls_alone : (asked : Option Invocation) (texts : Texts) (i : List ℕ) → IsAlone (Allows asked texts i)
calls_alone None texts i = λ a b x y. x ∙ sym y
calls_alone (Some (compile file)) texts i = put_alone CSpells CRefused c_language file texts
calls_alone (Some (optimise file)) texts i = put_alone EirSpells EirRefused eir_language file texts
calls_alone (Some (evaluate file fuel)) texts i = file_alone _ (run_alone CSpells CRefused c_language c_runs i fuel (once_same CSpells c_runs i fuel c_once)) file texts
calls_alone (Some (build target file)) texts i = made_alone CSpells CRefused c_language c_once compiled (emitted_in target).limit file texts
calls_alone (Some (sample blocks)) texts i = λ a b x y. x ∙ sym y
calls_alone (Some (eir file steps)) texts i =
    file_alone _ (run_alone EirSpells EirRefused eir_language eir_runs i steps (once_same EirSpells eir_runs i steps eir_once)) file texts
calls_alone (Some (emit target file)) texts i = made_alone EirSpells EirRefused eir_language eir_once (λ p. p) (emitted_in target).limit file texts
calls_alone (Some (run target file steps codel)) texts i = run_target_alone target file steps codel texts i
