-- The machine's steps are the rule's.
use Rattle.std.proofs.Common.{◌≡◌, ℕ, ◌<◌, ◌≤◌, ◌^◌, Bool, true, false, cond, List, length, Option, Some, None, refl, sym, ap, subst, ◌∙◌, arith}
use Rattle.std.specs.Prelude.{nat_lt, slice_get, IfOk}
use Rattle.std.specs.Option.{option_map}
use Rattle.std.specs.declared.result.Result.{Result}
use Rattle.std.proofs.lemmas.Result.{IfOk-weaker}
use Rattle.mach_core.specs.declared.machine.Status.{Status}
use Rattle.mach_core.specs.declared.machine.Status.TheVariants.{Going, Ended, Fault}
use Rattle.mach_core.specs.declared.machine.Moved.{Moved}
use Rattle.mach_core.specs.Rule.{if_going}
use Rattle.mach_core.specs.Moved.{MovesBy}
use Rattle.ws_lang.specs.declared.effect.Effect.{Effect}
use Rattle.ws_lang.specs.declared.resolved.Resolved.{Resolved}
use Rattle.ws_lang.specs.Resolved.{resolved_in}
use Rattle.ws_lang.specs.Instruction.{Instruction}
use Rattle.ws_lang.specs.Step.{Config, Reading, Act, Goes, Writes, Takes, Fails, act, act_in, act_at, act_of, act_reading, outcome, is_taking, ws_rule}
use Rattle.ws_lang.specs.Effect.{act_for, effect_of, takes_with}
use Rattle.ws_lang.specs.Acts.{Acts}
use Rattle.ws_lang.proofs.EffectLemmas.{act_for-effect}

fed_same : (c : Config) (a : Act) (fed : ℕ) → outcome c a fed ≡ outcome c a (cond (is_taking a) fed 0)
fed_same c (Goes d) fed = refl
fed_same c (Writes bytes d) fed = refl
fed_same c (Takes on) fed = refl
fed_same c (Fails code) fed = refl

-- an act of the rule moves by the rule
moves_act : (code : List Instruction) (c new : Config) (a : Act) (fed : ℕ) (moved : Moved) → a ≡ act code c → Acts c a fed new moved → MovesBy (ws_rule code) c fed new moved
moves_act code c new a fed moved e h =
    let k : Acts c (act code c) fed new moved = subst (λ b. Acts c b fed new moved) e h in
    record { config = k.config ∙ fed_same c (act code c) fed; bytes = k.bytes; took = k.took }

act_there : (code : List Instruction) (c : Config) (i : Instruction) → c.reading ≡ None → slice_get code c.place ≡ Some i → act_of code c i ≡ act code c
act_there code c i e f = sym (ap (act_in code c) e ∙ ap (act_at code c) f)

-- an instruction
pub moves_op : (code : List Instruction) (c new : Config) (i : Instruction) (step : Resolved) (fed : ℕ) (effect : Effect) (moved : Moved) → c.reading ≡ None → slice_get code c.place ≡ Some i → step ≡ resolved_in code i → effect ≡ effect_of c.stack c.heap step → Acts c (act_for c effect) fed new moved → MovesBy (ws_rule code) c fed new moved
moves_op code c new i step fed effect moved none there to is h =
    moves_act code c new (act_for c effect) fed moved (act_for-effect code c i step effect to is ∙ act_there code c i none there) h

-- the answer of an instruction's step
pub step_moves : {E : Type 0} (r : Result Moved E) (code : List Instruction) (c new : Config) (i : Instruction) (step : Resolved) (fed : ℕ) (effect : Effect) → c.reading ≡ None → slice_get code c.place ≡ Some i → step ≡ resolved_in code i → effect ≡ effect_of c.stack c.heap step → IfOk r (λ moved. Acts c (act_for c effect) fed new moved) → IfOk r (MovesBy (ws_rule code) c fed new)
step_moves r code c new i step fed effect none there to is h = IfOk-weaker r (λ moved. Acts c (act_for c effect) fed new moved) (MovesBy (ws_rule code) c fed new) (λ moved k. moves_op code c new i step fed effect moved none there to is k) h

-- the same where the instruction is found as the machine executes it
pub step_found : {E : Type 0} (r : Result Moved E) (code : List Instruction) (c new : Config) (place fed : ℕ) (step : Resolved) (effect : Effect) → c.reading ≡ None → place ≡ c.place → Some step ≡ option_map (resolved_in code) (slice_get code place) → effect ≡ effect_of c.stack c.heap step → IfOk r (λ moved. Acts c (act_for c effect) fed new moved) → IfOk r (MovesBy (ws_rule code) c fed new)
step_found r code c new place fed step effect none at there is h = by (slice_get code place) refl there where
  by : (o : Option Instruction) → slice_get code place ≡ o → Some step ≡ option_map (resolved_in code) o → IfOk r (MovesBy (ws_rule code) c fed new)
  by None e f = absurd cc
  by (Some i) e f = let same : step ≡ resolved_in code i = cc in step_moves r code c new i step fed effect none (ap (slice_get code) (sym at) ∙ e) same is h
