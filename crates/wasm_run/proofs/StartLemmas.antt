-- Where a run starts.
use Rattle.std.proofs.Common.{◌≡◌, ℕ, ◌-◌, ◌≤◌, List, [], ◌∷◌, ◌++◌, length, map, Option, Some, ap, ◌∙◌, sym, subst}
use Rattle.std.specs.FinMap as fin
use Rattle.mach_core.specs.declared.machine.Status.TheVariants.{Going}
use Rattle.wasm_bin.specs.declared.module.Module.{Module}
use Rattle.wasm_rule.specs.Config.{Config}
use Rattle.wasm_rule.specs.Memory.{Memory}
use Rattle.wasm_rule.specs.Rule.{new_call, ended}
use Rattle.wasm_rule.specs.Start.{main_of, least_in, with_segments, first_value, first_call, wasm_start}
use Rattle.wasm_rule.proofs.MainLemmas.{main_call}
use Rattle.wasm_parts.specs.declared.frame.CallFrame.{CallFrame}
use Rattle.wasm_parts.specs.Frames.{call_of}
use Rattle.wasm_run.specs.States.{callers_of, later_of}

-- a machine at the start
pub started : (m : Module) (frame entry : CallFrame) (later first : Option CallFrame) (main : ℕ) → call_of m frame ∷ later_of m later ≡ later_of m first ++ (call_of m entry ∷ [])
    → later_of m first ≡ first_call m m.start → call_of m entry ≡ new_call m (main - length m.imports) [] → main_of m ≡ Some main → length m.imports ≤ main
    → record {
      globals = map first_value m.globals;
      memory = record { pages = least_in m.memory; bytes = with_segments fin.empty m.segments };
      calls = call_of m frame ∷ [];
      later = later_of m later;
      status = Going;
    } ≡ wasm_start m
started m frame entry later first main e f g h le =
    let base : Config = record {
      globals = map first_value m.globals;
      memory = record { pages = least_in m.memory; bytes = with_segments fin.empty m.segments };
      calls = [];
      later = [];
      status = Going;
    } in
    ap (ended base) (e ∙ (ap (λ calls. calls ++ (call_of m entry ∷ [])) f ∙ ap (λ calls. first_call m m.start ++ calls) (ap (λ call. call ∷ []) g ∙ sym (main_call m main h le))))

-- the same by the parts of the machine, which holds an equal module
pub started_at : (l m : Module) (frame entry : CallFrame) (later first : Option CallFrame) (main own : ℕ) (globals : List ℕ) (memory : Memory) (callers : List CallFrame) → l ≡ m
    → globals ≡ map first_value m.globals → memory ≡ record { pages = least_in m.memory; bytes = with_segments fin.empty m.segments } → callers ≡ []
    → call_of l frame ∷ later_of l later ≡ later_of l first ++ (call_of l entry ∷ [])
    → later_of l first ≡ first_call l m.start → call_of l entry ≡ new_call l own [] → own ≡ main - length m.imports → main_of m ≡ Some main → length m.imports ≤ main
    → record { globals = globals; memory = memory; calls = call_of l frame ∷ callers_of l callers; later = later_of l later; status = Going } ≡ wasm_start m
started_at l m frame entry later first main own globals memory callers same g s n e f h o is le =
    let shape = λ (xs : List ℕ) (mem : Memory) (k : Module) (under : List CallFrame). let c : Config = record { globals = xs; memory = mem; calls = call_of k frame ∷ callers_of k under; later = later_of k later; status = Going } in c in
    let e' = subst (λ (k : Module). call_of k frame ∷ later_of k later ≡ later_of k first ++ (call_of k entry ∷ [])) same e in
    let f' = subst (λ (k : Module). later_of k first ≡ first_call k m.start) same f in
    let h' = subst (λ (k : Module). call_of k entry ≡ new_call k own []) same h in
    let starts = map first_value m.globals in
    let filled : Memory = record { pages = least_in m.memory; bytes = with_segments fin.empty m.segments } in
    ap (λ xs. shape xs memory l callers) g ∙ (ap (λ mem. shape starts mem l callers) s ∙ (ap (λ k. shape starts filled k callers) same ∙ (ap (shape starts filled m) n
    ∙ started m frame entry later first main e' f' (h' ∙ ap (λ k. new_call m k []) o) is le)))
