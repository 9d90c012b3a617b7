use Rattle.std.proofs.Common.{◌+◌, subst, arith}
use Rattle.mach_core.specs.Held.{Buffers, StepsHeld}
use Rattle.eir_core.specs.Step.{Config, eir_rule}
use Rattle.eir_core.specs.StateInside.{config_at}
use Rattle.eir_core.specs.Registers.{regs_of}
use Rattle.eir_core.specs.declared.act.Next.TheVariants.{On, To}
use Rattle.eir_core.proofs.HeldSteps.{in_block, one_more_held, on_within, on_last}
use Rattle.eir_core.proofs.buffered.run_buffered.Goals as goal

pub overflow_add-block : goal.overflow_add-block
overflow_add-block c =
    let there = in_block c.args.program.now c.steps.block c.steps.index c.steps.ops.now c.steps.invariant.at c.steps.invariant.inside in
    let count = c.block_count-count.ensures.count in
    let small = c.block_count-count.ensures.small in
    omega arith

pub steps-preserved-then-index-ops-2 : goal.steps-preserved-then-index-ops-2
steps-preserved-then-index-ops-2 c =
    let p = c.args.program.now in
    let old = config_at c.args.position.now c.args.registers.now c.args.memory.now in
    let before : Buffers = record { held = c.args.feed.now; put = c.args.put.now } in
    let there : Buffers = record { held = c.steps.feed; put = c.steps.put } in
    let after' : Buffers = record { held = c.make_held.new.feed; put = c.make_held.new.put } in
    let regs = regs_of c.make_held.new.registers in
    let held = one_more_held p old before there after' c.steps.made c.steps.block c.steps.index (regs_of c.steps.registers) regs c.steps.memory c.make_held.new.memory c.steps.ops.now c.index-ops-index.result c.block_count-count.result On c.steps.invariant.held c.steps.invariant.at c.steps.invariant.inside c.index-ops-index.is c.block_count-count.ensures.count c.in-On.ensures in
    record {
      few = omega arith;
      at = c.steps.invariant.at;
      inside = c.if-index-ops-2.true;
      short = c.steps.invariant.short;
      held = subst (λ (x : Config). StepsHeld (eir_rule p) old before (c.steps.made + 1) x after') (on_within p c.steps.block c.steps.index regs c.make_held.new.memory c.steps.ops.now c.steps.invariant.at c.if-index-ops-2.true) held;
    }

pub steps-preserved-in-On : goal.steps-preserved-in-On
steps-preserved-in-On c =
    let p = c.args.program.now in
    let old = config_at c.args.position.now c.args.registers.now c.args.memory.now in
    let before : Buffers = record { held = c.args.feed.now; put = c.args.put.now } in
    let there : Buffers = record { held = c.steps.feed; put = c.steps.put } in
    let after' : Buffers = record { held = c.make_held.new.feed; put = c.make_held.new.put } in
    let regs = regs_of c.make_held.new.registers in
    let held = one_more_held p old before there after' c.steps.made c.steps.block c.steps.index (regs_of c.steps.registers) regs c.steps.memory c.make_held.new.memory c.steps.ops.now c.index-ops-index.result c.block_count-count.result On c.steps.invariant.held c.steps.invariant.at c.steps.invariant.inside c.index-ops-index.is c.block_count-count.ensures.count c.in-On.ensures in
    record {
      few = omega arith;
      at = c.ops-ops-in-On.ensures.ops;
      inside = grind arith;
      short = c.ops-ops-in-On.ensures.few;
      held = subst (λ (x : Config). StepsHeld (eir_rule p) old before (c.steps.made + 1) x after') (on_last p c.steps.block c.steps.index regs c.make_held.new.memory c.steps.ops.now c.steps.invariant.at c.if-index-ops-2.false) held;
    }

pub steps-preserved : goal.steps-preserved
steps-preserved c =
    let p = c.args.program.now in
    let old = config_at c.args.position.now c.args.registers.now c.args.memory.now in
    let before : Buffers = record { held = c.args.feed.now; put = c.args.put.now } in
    let there : Buffers = record { held = c.steps.feed; put = c.steps.put } in
    let after' : Buffers = record { held = c.make_held.new.feed; put = c.make_held.new.put } in
    record {
      few = omega arith;
      at = c.ops-ops-in-To.ensures.ops;
      inside = grind arith;
      short = c.ops-ops-in-To.ensures.few;
      held = one_more_held p old before there after' c.steps.made c.steps.block c.steps.index (regs_of c.steps.registers) (regs_of c.make_held.new.registers) c.steps.memory c.make_held.new.memory c.steps.ops.now c.index-ops-index.result c.block_count-count.result (To c.in-To.to) c.steps.invariant.held c.steps.invariant.at c.steps.invariant.inside c.index-ops-index.is c.block_count-count.ensures.count c.in-To.ensures;
    }

pub returns-then-is_empty-clause-held : goal.returns-then-is_empty-clause-held
returns-then-is_empty-clause-held c =
    let p = c.args.program.now in
    let old = config_at c.args.position.now c.args.registers.now c.args.memory.now in
    let before : Buffers = record { held = c.args.feed.now; put = c.args.put.now } in
    let there : Buffers = record { held = c.steps.feed; put = c.steps.put } in
    let after' : Buffers = record { held = c.make_held.new.feed; put = c.make_held.new.put } in
    let regs = regs_of c.make_held.new.registers in
    let held = one_more_held p old before there after' c.steps.made c.steps.block c.steps.index (regs_of c.steps.registers) regs c.steps.memory c.make_held.new.memory c.steps.ops.now c.index-ops-index.result c.block_count-count.result On c.steps.invariant.held c.steps.invariant.at c.steps.invariant.inside c.index-ops-index.is c.block_count-count.ensures.count c.in-On.ensures in
    subst (λ (x : Config). StepsHeld (eir_rule p) old before (c.steps.made + 1) x after') (on_last p c.steps.block c.steps.index regs c.make_held.new.memory c.steps.ops.now c.steps.invariant.at c.if-index-ops-2.false) held

pub returns-then-is_empty-2-clause-held : goal.returns-then-is_empty-2-clause-held
returns-then-is_empty-2-clause-held c =
    let p = c.args.program.now in
    let old = config_at c.args.position.now c.args.registers.now c.args.memory.now in
    let before : Buffers = record { held = c.args.feed.now; put = c.args.put.now } in
    let there : Buffers = record { held = c.steps.feed; put = c.steps.put } in
    let after' : Buffers = record { held = c.make_held.new.feed; put = c.make_held.new.put } in
    one_more_held p old before there after' c.steps.made c.steps.block c.steps.index (regs_of c.steps.registers) (regs_of c.make_held.new.registers) c.steps.memory c.make_held.new.memory c.steps.ops.now c.index-ops-index.result c.block_count-count.result (To c.in-To.to) c.steps.invariant.held c.steps.invariant.at c.steps.invariant.inside c.index-ops-index.is c.block_count-count.ensures.count c.in-To.ensures
