use Rattle.std.proofs.Common.{◌<◌, length, get_or, pos, sym, subst, arith}
use Rattle.std.proofs.lemmas.List.{get_or_default}
use Rattle.ws_lang.specs.declared.resolved.Resolved.TheVariants.{Push}
use Rattle.mach_core.specs.Held.{Buffers, StepsHeld}
use Rattle.ws_lang.specs.Step.{Config, ws_rule}
use Rattle.ws_lang.specs.Stack.{values_of}
use Rattle.ws_lang.specs.Quiet.{running}
use Rattle.ws_lang.proofs.HeldSteps.{one_more_held}
use Rattle.ws_lang.proofs.buffered.run_buffered.Goals as goal

pub returns-then-not-perform_held-clause-held : goal.returns-then-not-perform_held-clause-held
returns-then-not-perform_held-clause-held c = λ returns.
    let same = c.perform_held.ensures.not c.if-not-perform_held.true returns in
    let kept = c.perform_held.ensures.kept c.if-not-perform_held.true in
    let old = running returns c.args.place.now (values_of c.args.slots.now c.args.len.now) c.args.heap.now in
    let before : Buffers = record { held = c.args.feed.now; put = c.args.put.now } in
    let there : Buffers = record { held = c.loop-made.feed; put = c.loop-made.put } in
    rw (kept.0, kept.1) (subst (λ (d : Config). StepsHeld (ws_rule c.args.program.now) old before c.loop-made.made d there) (sym same) (c.loop-made.invariant.held returns))

pub loop-made-preserved : goal.loop-made-preserved
loop-made-preserved c =
    let steps = c.steps-steps.result.now in
    let lt : c.loop-made.at < length steps = omega arith in
    let step = get_or steps c.loop-made.at (Push (pos 0)) in
    record {
      few = omega arith;
      fits = c.perform_held.ensures.len;
      held = λ returns.
          one_more_held c.args.program.now (running returns c.args.place.now (values_of c.args.slots.now c.args.len.now) c.args.heap.now)
          (record { held = c.args.feed.now; put = c.args.put.now }) (record { held = c.loop-made.feed; put = c.loop-made.put }) (record { held = c.perform_held.new.feed; put = c.perform_held.new.put })
          c.loop-made.made c.loop-made.at c.perform_held.new.place returns
          (values_of c.loop-made.slots c.loop-made.depth) (values_of c.perform_held.new.slots c.perform_held.new.len) c.loop-made.heap c.perform_held.new.heap steps step c.effect_at-effect.result
          (c.loop-made.invariant.held returns) c.steps-steps.ensures.steps lt (get_or_default steps c.loop-made.at (Push (pos 0)) step lt) c.effect_at-effect.ensures (c.perform_held.ensures.done c.if-not-perform_held.false returns);
    }
