use Rattle.std.proofs.Common.{◌≡◌, ◌++◌, subst}
use Rattle.bf_turn.specs.Arm.{HasMore}
use Rattle.bf_turn.specs.Code.{arms_code}
use Rattle.bf_turn.proofs.Listed.{none_pushed, one_pushed, all_taken}
use Rattle.bf_turn.proofs.Coded.{none_coded, one_coded}
use Rattle.bf_turn.proofs.arms.push_block.Goals as goal

pub loop-i-init : goal.loop-i-init
loop-i-init c = record {
  code = none_coded c.args.digits c.args.numbers.now c.args.last c.args.number c.args.ops.now c.args.pieces.now;
  effect = none_pushed c.args.digits c.args.numbers.now c.args.last c.args.number c.args.pieces.now;
}

pub loop-i-preserved : goal.loop-i-preserved
loop-i-preserved c = record {
  code = one_coded c.args.digits c.args.numbers.now c.args.last c.args.number c.loop-i.i c.following-next.result c.args.ops.now c.index-ops-i.result c.in_ok-arm.arm.commands c.args.pieces.now c.loop-i.pieces c.push.new.self
      c.loop-i-test.true c.index-ops-i.is c.following-next.ensures c.in_ok-arm.ensures.code c.in_ok-push.ensures.ok c.loop-i.invariant.code;
  effect = one_pushed c.args.digits c.args.numbers.now c.args.last c.args.number c.loop-i.i c.following-next.result c.args.ops.now c.index-ops-i.result c.in_ok-arm.arm.commands c.args.pieces.now c.loop-i.pieces c.push.new.self
      c.loop-i-test.true c.index-ops-i.is c.following-next.ensures c.in_ok-arm.ensures.effect c.in_ok-push.ensures.ok c.loop-i.invariant.effect;
}

pub returns-clause-code : goal.returns-clause-code
returns-clause-code c =
    subst (λ xs. c.loop-i.pieces ≡ c.args.pieces.now ++ arms_code c.args.digits c.args.numbers.now c.args.last c.args.number xs) (all_taken c.loop-i.i c.args.ops.now c.loop-i-test.false) c.loop-i.invariant.code

pub returns-clause-effect : goal.returns-clause-effect
returns-clause-effect c =
    subst (λ xs. HasMore c.args.digits c.args.numbers.now c.args.last c.args.number xs c.args.pieces.now c.loop-i.pieces) (all_taken c.loop-i.i c.args.ops.now c.loop-i-test.false) c.loop-i.invariant.effect
