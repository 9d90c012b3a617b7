-- All along a run of a valid module that can be linked, the instruction that comes next has what it needs.
use Rattle.std.proofs.Common.{◌≡◌, ℕ, zero, suc, ◌-◌, ◌≤◌, true, false, List, [], ◌∷◌, ◌++◌, length, map, Option, Some, None, refl, sym}
use Rattle.std.specs.Prelude.{cond, nat_eq, nat_lt}
use Rattle.std.specs.FinMap as fin
use Rattle.std.proofs.lemmas.Bool.{ltb-false}
use Rattle.std.proofs.lemmas.List.{length-map}
use Rattle.mach_core.specs.declared.machine.Status.TheVariants.{Going, Ended, Fault}
use Rattle.mach_core.specs.Rule.{Moment, if_going, fed_at, applied, run, stepped as moment_after}
use Rattle.wasm_bin.specs.declared.module.FuncType.{FuncType}
use Rattle.wasm_bin.specs.declared.module.Module.{Module}
use Rattle.wasm_valid.specs.Context.{function_type}
use Rattle.wasm_valid.specs.Rules.{IsValid, is_start_type, is_start, own_type}
use Rattle.wasm_valid.proofs.Levels.{true_eq, and_both}
use Rattle.wasm_rule.specs.Config.{Call, Config}
use Rattle.wasm_rule.specs.Rule.{new_call, wasm_rule}
use Rattle.wasm_rule.specs.Start.{is_type, main_of, least_in, with_segments, first_value, first_call, wasm_start, IsLinkable}
use Rattle.wasm_rule.specs.Ready.{IsReady}
use Rattle.wasm_rule.proofs.MainLemmas.{main_type}
use Rattle.wasm_rule.proofs.Fitting.{AllFit, ready}
use Rattle.wasm_rule.proofs.FittingActs.{Keeps}
use Rattle.wasm_rule.proofs.FittingBlocks.{ended_keeps}
use Rattle.wasm_rule.proofs.Functions.{own_is}
use Rattle.wasm_rule.proofs.FittingCalls.{new_fits}
use Rattle.wasm_rule.proofs.FittingSteps.{step_keeps}

-- ---- the start

all_fit : (m : Module) (calls more : List Call) → AllFit m calls → AllFit m more → AllFit m (calls ++ more)
all_fit m [] more h k = k
all_fit m (call ∷ calls) more (f, h) k = (f, all_fit m calls more h k)

-- a type that takes nothing
TakesNone : Module → ℕ → Type 0
TakesNone m own = (t : FuncType) × (own_type m own ≡ Some t) × (0 ≡ t.params)

first_fits : (m : Module) → IsValid m → (index : ℕ) → (length m.imports ≤ index → TakesNone m (index - length m.imports)) → AllFit m (first_call m (Some index))
unfolding TakesNone
first_fits m v index has =
    elim (nat_lt index (length m.imports)) as (λ b. nat_lt index (length m.imports) ≡ b → AllFit m (cond b [] (new_call m (index - length m.imports) [] ∷ []))) [
      | true ↦ λ b. tt
      | false ↦ λ b.
          let (t, is, none) = has (ltb-false index (length m.imports) b) in
          ((new_fits m v (index - length m.imports) t [] is none).0, tt)
    ] refl

start_type : (o : Option FuncType) → is_start_type o ≡ true → (t : FuncType) × (o ≡ Some t) × (0 ≡ t.params)
start_type None e = absurd cc
start_type (Some t) e = (t, refl, sym (true_eq t.params 0 (and_both (nat_eq t.params 0) (nat_eq t.results 0) e).0))

start_fits : (m : Module) → IsValid m → (start : Option ℕ) → is_start m start ≡ true → AllFit m (first_call m start)
unfolding TakesNone
start_fits m v None e = tt
start_fits m v (Some index) e =
    first_fits m v index (λ le. let (t, is, none) = start_type (function_type m index) e in (t, own_is m index t is le, none))

main_kind : (o : Option FuncType) → is_type 0 0 o ≡ true → (t : FuncType) × (o ≡ Some t) × (0 ≡ t.params)
main_kind None e = absurd cc
main_kind (Some t) e = (t, refl, sym (true_eq t.params 0 (and_both (nat_eq t.params 0) (nat_eq t.results 0) e).0))

main_takes : (m : Module) (index : ℕ) → is_type 0 0 (function_type m index) ≡ true → length m.imports ≤ index → TakesNone m (index - length m.imports)
unfolding TakesNone
main_takes m index e le = let (t, is, none) = main_kind (function_type m index) e in (t, own_is m index t is le, none)

main_fits : (m : Module) → IsValid m → (main : Option ℕ) → main_of m ≡ main → AllFit m (first_call m main)
main_fits m v None e = tt
main_fits m v (Some index) e = first_fits m v index (main_takes m index (main_type m m.exports index e))

start_keeps : (m : Module) → IsValid m → Keeps m (wasm_start m)
start_keeps m v =
    ended_keeps m (record {
      globals = map first_value m.globals;
      memory = record { pages = least_in m.memory; bytes = with_segments fin.empty m.segments };
      calls = [];
      later = [];
      status = Going;
    }) (first_call m m.start ++ first_call m (main_of m)) (all_fit m (first_call m m.start) (first_call m (main_of m)) (start_fits m v m.start v.rules.start) (main_fits m v (main_of m) refl))
    (length-map m.globals first_value)

-- ---- the run

applied_keeps : (m : Module) → IsValid m → IsLinkable m → (input : List ℕ) (t : Moment Config) → Keeps m t.config → Keeps m (applied (wasm_rule m) input t).config
applied_keeps m v linked input t h =
    elim t.config.status as (λ status. t.config.status ≡ status → Keeps m (if_going status (moment_after (wasm_rule m) input t) t).config) [
      | Going ↦ λ going. step_keeps m v linked t.config (fed_at (wasm_rule m) input t) (h going)
      | Ended ↦ λ over. h
      | Fault code ↦ λ over. h
    ] refl

run_keeps : (m : Module) → IsValid m → IsLinkable m → (input : List ℕ) (steps : ℕ) → Keeps m (run (wasm_rule m) (wasm_start m) input steps).config
run_keeps m v linked input zero = start_keeps m v
run_keeps m v linked input (suc steps) = applied_keeps m v linked input (run (wasm_rule m) (wasm_start m) input steps) (run_keeps m v linked input steps)

pub runs_ready : (m : Module) → IsValid m → IsLinkable m → (input : List ℕ) (steps : ℕ) → (run (wasm_rule m) (wasm_start m) input steps).config.status ≡ Going → IsReady m (run (wasm_rule m) (wasm_start m) input steps).config
runs_ready m v linked input steps going = ready m (run (wasm_rule m) (wasm_start m) input steps).config (run_keeps m v linked input steps going)
