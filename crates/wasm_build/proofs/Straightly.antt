-- Straight code runs as a function says.
use Rattle.std.proofs.Common.{◌≡◌, ℕ, ◌+◌, Bool, true, false, List, [], ◌∷◌, ◌++◌, length, drop, Option, None, Some, unwrap_or, refl, ap, subst, ◌∙◌, arith}
use Rattle.std.specs.Prelude.{slice_index, slice_set}
use Rattle.std.specs.Option.{option_and_then}
use Rattle.mach_core.specs.Silent.{StepsSilently}
use Rattle.mach_core.proofs.Lists.{drop_none}
use Rattle.mach_core.proofs.Silently.{silent_none}
use Rattle.wasm_bin.specs.declared.module.Instr.{Instr}
use Rattle.wasm_bin.specs.declared.module.Instr.TheVariants as instr
use Rattle.wasm_bin.specs.declared.module.Module.{Module}
use Rattle.wasm_rule.specs.declared.act.Act.{Act}
use Rattle.wasm_rule.specs.declared.act.Act.TheVariants as act
use Rattle.wasm_rule.specs.Memory.{is_within, with_bytes, bytes_of}
use Rattle.wasm_rule.specs.Config.{Label}
use Rattle.wasm_rule.specs.Step.{act_of}
use Rattle.wasm_rule.specs.Rule.{after, takes_byte, bytes_written, wasm_rule}
use Rattle.wasm_build.specs.Straight.{Stage, stored, acted, straight_act, ran}
use Rattle.wasm_build.specs.Lead.{Around, spot, call_at, config_at, Leads}
use Rattle.wasm_build.proofs.Steps.{one, silent_then}

abbrev no_stage : Option Stage
no_stage = None

some_is : {A : Type 0} (x y : A) → Some x ≡ Some y → x ≡ y
some_is x y e = ap (λ o. unwrap_or o x) e

-- what the machine does with an instruction of straight code
abbrev act_there : Module → ℕ → Stage → Instr → Act
act_there m calls s i = act_of m (record { calls = calls; locals = s.locals; globals = s.globals; memory = s.memory; values = s.values }) i

act_is : (m : Module) (calls : ℕ) (s s' : Stage) (i : Instr) → acted (straight_act s i) s ≡ Some s' → act_there m calls s i ≡ straight_act s i
act_is m calls s s' (instr.Block gives) e = absurd cc
act_is m calls s s' (instr.Loop gives) e = absurd cc
act_is m calls s s' (instr.If gives) e = absurd cc
act_is m calls s s' instr.Else e = absurd cc
act_is m calls s s' instr.End e = absurd cc
act_is m calls s s' (instr.Br label) e = absurd cc
act_is m calls s s' (instr.BrIf label) e = absurd cc
act_is m calls s s' (instr.BrTable labels label) e = absurd cc
act_is m calls s s' instr.Return e = absurd cc
act_is m calls s s' (instr.Call func) e = absurd cc
act_is m calls s s' i e = refl

-- the act leads on
record Goes (m : Module) (around : Around) (s s' : Stage) (labels : List Label) (i : Instr) (code : List Instr) (a : Act) : Type 0 where
  takes : takes_byte a ≡ false
  writes : bytes_written a ≡ []
  leads : after m (config_at around (spot s labels (i ∷ code))) (call_at around (spot s labels (i ∷ code))) around.callers a 0 ≡ config_at around (spot s' labels code)

ends_at : (around : Around) (t s' : Stage) (labels : List Label) (code : List Instr) → Some t ≡ Some s' → config_at around (spot t labels (drop 0 code)) ≡ config_at around (spot s' labels code)
ends_at around t s' labels code e = ap (λ c. config_at around (spot t labels c)) (drop_none code) ∙ ap (λ x. config_at around (spot x labels code)) (some_is t s' e)

store_goes : (m : Module) (around : Around) (s s' : Stage) (labels : List Label) (i : Instr) (code : List Instr) (count address word : ℕ) (within : Bool) → is_within s.memory address count ≡ within → stored s count address word ≡ Some s'
    → after m (config_at around (spot s labels (i ∷ code))) (call_at around (spot s labels (i ∷ code))) around.callers (act.Store count address word) 0 ≡ config_at around (spot s' labels code)
store_goes m around s s' labels i code count address word true t e =
    let t' : Stage = record s { values = drop 2 s.values; memory = record s.memory { bytes = with_bytes s.memory.bytes address (bytes_of count word) } } in
    let e' : Some t' ≡ Some s' = rw t at e in
    rw t (ends_at around t' s' labels code e')
store_goes m around s s' labels i code count address word false t e =
    let none : no_stage ≡ Some s' = rw t at e in
    absurd cc

goes : (m : Module) (around : Around) (s s' : Stage) (labels : List Label) (i : Instr) (code : List Instr) (a : Act) → acted a s ≡ Some s' → Goes m around s s' labels i code a
goes m around s s' labels i code (act.Take count) e = record { takes = refl; writes = refl; leads = ends_at around (record s { values = drop count s.values }) s' labels code e }
goes m around s s' labels i code (act.Put count value) e = record { takes = refl; writes = refl; leads = ends_at around (record s { values = value ∷ drop count s.values }) s' labels code e }
goes m around s s' labels i code (act.SetLocal count k value) e = record { takes = refl; writes = refl; leads = ends_at around (record s { values = drop count s.values; locals = slice_set s.locals k value }) s' labels code e }
goes m around s s' labels i code (act.SetGlobal k value) e = record { takes = refl; writes = refl; leads = ends_at around (record s { values = drop 1 s.values; globals = slice_set s.globals k value }) s' labels code e }
goes m around s s' labels i code (act.Store count address word) e = record { takes = refl; writes = refl; leads = store_goes m around s s' labels i code count address word (is_within s.memory address count) refl e }
goes m around s s' labels i code (act.Grow more) e = absurd cc
goes m around s s' labels i code (act.Block count gives) e = absurd cc
goes m around s s' labels i code act.Loop e = absurd cc
goes m around s s' labels i code (act.Otherwise gives) e = absurd cc
goes m around s s' labels i code act.Leave e = absurd cc
goes m around s s' labels i code act.End e = absurd cc
goes m around s s' labels i code (act.Branch count depth) e = absurd cc
goes m around s s' labels i code act.Return e = absurd cc
goes m around s s' labels i code (act.Call own) e = absurd cc
goes m around s s' labels i code act.Read e = absurd cc
goes m around s s' labels i code (act.Write byte) e = absurd cc
goes m around s s' labels i code (act.Stop fault) e = absurd cc

one_goes : (m : Module) (around : Around) (s s' : Stage) (labels : List Label) (i : Instr) (code : List Instr) → acted (straight_act s i) s ≡ Some s' → StepsSilently (wasm_rule m) (config_at around (spot s labels (i ∷ code))) 1 (config_at around (spot s' labels code))
one_goes m around s s' labels i code e =
    let p = goes m around s s' labels i code (straight_act s i) e in
    let same = act_is m (length (call_at around (spot s labels (i ∷ code)) ∷ around.callers)) s s' i e in
    one (wasm_rule m) (config_at around (spot s labels (i ∷ code))) (config_at around (spot s' labels code)) refl
    (ap takes_byte same ∙ p.takes) (ap bytes_written same ∙ p.writes)
    (ap (λ a. after m (config_at around (spot s labels (i ∷ code))) (call_at around (spot s labels (i ∷ code))) around.callers a 0) same ∙ p.leads)

pub straight : (m : Module) (code rest : List Instr) (labels : List Label) (s s' : Stage) → ran code s ≡ Some s' → Leads m (spot s labels (code ++ rest)) (length code) (spot s' labels rest)
straight m [] rest labels s s' e = record { silent = λ around. subst (λ t. StepsSilently (wasm_rule m) (config_at around (spot s labels rest)) 0 (config_at around (spot t labels rest))) (some_is s s' e) (silent_none (wasm_rule m) (config_at around (spot s labels rest))) }
straight m (i ∷ code) rest labels s s' e = elim (acted (straight_act s i) s) as (λ o. acted (straight_act s i) s ≡ o → option_and_then (ran code) o ≡ Some s' → Leads m (spot s labels (i ∷ (code ++ rest))) (length (i ∷ code)) (spot s' labels rest)) [
  | None ↦ λ first left. absurd cc
  | Some t ↦ λ first left. record {
    silent = λ around.
        let count : 1 + length code ≡ length (i ∷ code) = omega arith in
        subst (λ n. StepsSilently (wasm_rule m) (config_at around (spot s labels (i ∷ (code ++ rest)))) n (config_at around (spot s' labels rest))) count
        (silent_then (wasm_rule m) (config_at around (spot s labels (i ∷ (code ++ rest)))) (config_at around (spot t labels (code ++ rest))) (config_at around (spot s' labels rest)) 1 (length code)
        (one_goes m around s t labels i (code ++ rest) first) ((straight m code rest labels t s' left).silent around));
  }
] refl e
