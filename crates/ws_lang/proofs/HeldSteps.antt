-- Instructions done with what is held, one after the other, as steps of a run.
use Rattle.std.proofs.Common.{◌≡◌, ℕ, ◌+◌, ◌<◌, true, cond, List, Option, None, Some, ℤ, length, map, get_or, refl, sym, ap, subst, ◌∙◌, arith}
use Rattle.std.specs.Prelude.{slice_get, nat_lt}
use Rattle.std.specs.Option.{option_map}
use Rattle.std.proofs.lemmas.Option.{slice_get-get_or, slice_get-map, slice_get_within}
use Rattle.mach_core.specs.declared.machine.Status.TheVariants.{Going, Fault}
use Rattle.mach_core.specs.Rule.{if_going}
use Rattle.mach_core.specs.Held.{Buffers, StepsHeld}
use Rattle.mach_core.proofs.Holding.{held_more}
use Rattle.ws_lang.specs.declared.effect.Effect.{Effect}
use Rattle.ws_lang.specs.declared.resolved.Resolved.{Resolved}
use Rattle.ws_lang.specs.Instruction.{Instruction}
use Rattle.ws_lang.specs.Resolved.{resolved_in}
use Rattle.ws_lang.specs.Step.{Heap, Config, Act, act, act_at, ws_rule}
use Rattle.ws_lang.specs.Effect.{act_for, effect_of}
use Rattle.ws_lang.specs.Acts.{ActsHeld}
use Rattle.ws_lang.specs.Quiet.{running}
use Rattle.ws_lang.proofs.EffectLemmas.{act_for-effect}

resolved_at : (code : List Instruction) (steps : List Resolved) (place : ℕ) (step : Resolved) (o : Option Instruction) → slice_get code place ≡ o → steps ≡ map (resolved_in code) code → place < length steps → step ≡ get_or steps place step → Some step ≡ option_map (resolved_in code) o
resolved_at code steps place step o e all lt is =
    ap (λ (x : Resolved). Some x) is ∙ (sym (slice_get-get_or steps place step lt) ∙ (ap (λ (xs : List Resolved). slice_get xs place) all ∙ (slice_get-map (resolved_in code) code place ∙ ap (option_map (resolved_in code)) e)))

-- one more step
pub one_more_held : (code : List Instruction) (old : Config) (before there after : Buffers) (n place place' : ℕ) (returns : List ℕ) (stack stack' : List ℤ) (heap heap' : Heap) (steps : List Resolved) (step : Resolved) (effect : Effect)
    → StepsHeld (ws_rule code) old before n (running returns place stack heap) there → steps ≡ map (resolved_in code) code → place < length steps → step ≡ get_or steps place step → effect ≡ effect_of stack heap step
    → ActsHeld (running returns place stack heap) (act_for (running returns place stack heap) effect) there (running returns place' stack' heap') after → StepsHeld (ws_rule code) old before (n + 1) (running returns place' stack' heap') after
one_more_held code old before there after n place place' returns stack stack' heap heap' steps step effect s all lt is eff acts = by (slice_get code place) refl where
  by : (o : Option Instruction) → slice_get code place ≡ o → StepsHeld (ws_rule code) old before (n + 1) (running returns place' stack' heap') after
  by None e = let found = resolved_at code steps place step None e all lt is in absurd cc
  by (Some i) e =
      let found = resolved_at code steps place step (Some i) e all lt is in
      let same : step ≡ resolved_in code i = cc in
      let c = running returns place stack heap in
      let within : place < length code = slice_get_within code place i e in
      let test : nat_lt place (length code) ≡ true = grind arith in
      let is_act : act_for c effect ≡ act code c = act_for-effect code c i step effect same eff ∙ sym (ap (act_at code c) e) in
      let acted = subst (λ (x : Act). ActsHeld c x there (running returns place' stack' heap') after) is_act acts in
      held_more (ws_rule code) old c (running returns place' stack' heap') before there after n s (record {
        going = ap (λ b. if_going Going (cond b Going (Fault 4)) Going) test;
        byte = acted.byte;
        taken = acted.taken;
        next = acted.config;
        put = acted.put;
      })
