use Rattle.std.proofs.Common.{w64, FitsSigned, rules, to_z, arith}
use Rattle.std.proofs.lemmas.Int.{to_z-of_z}
use Rattle.mach_core.proofs.Holding.{held_more}
use Rattle.sq_lang.specs.Step.{sq_rule}
use Rattle.sq_lang.specs.Quiet.{placed}
use Rattle.sq_lang.proofs.buffered.run_buffered.Goals as goal

pub returns-in_default-clause-held : goal.returns-in_default-clause-held
returns-in_default-clause-held c = λ program. rw (c.in_default.ensures.0, c.in_default.ensures.1, c.in_default.ensures.2) (c.steps.invariant.held program)

pub steps-preserved : goal.steps-preserved
steps-preserved c =
    let fits : FitsSigned w64 c.in-Some.next = search rules in
    let next_is = to_z-of_z w64 c.in-Some.next fits in
    record {
      few = omega arith;
      held = λ program. rw next_is (held_more (sq_rule program) (placed c.args.address.now c.args.cells.now) (placed (to_z w64 c.steps.at-bits) c.steps.cells) (placed c.in-Some.next c.step_at.new.cells) (record { held = c.args.feed.now; put = c.args.put.now }) (record { held = c.steps.feed; put = c.steps.put }) (record { held = c.step_at.new.feed; put = c.step_at.new.put }) c.steps.made (c.steps.invariant.held program) (c.in-Some.ensures program));
    }
