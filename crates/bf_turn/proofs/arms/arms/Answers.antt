use Rattle.std.proofs.Common.{subst, ap, ◌≡◌, ◌≤◌, ◌∙◌, ◌++◌, ◌∷◌, length, arith, slice_index}
use Rattle.bf_tape.specs.Code.{add_code}
use Rattle.bf_turn.specs.Number.{first_numbers}
use Rattle.bf_turn.specs.Arm.{HasAll, HasMore}
use Rattle.bf_turn.specs.Code.{arms_code}
use Rattle.bf_turn.proofs.Listed.{all_ops, all_start, block_pushed, all_taken, block_within}
use Rattle.bf_turn.proofs.Coded.{end_coded, blocks_coded}
use Rattle.bf_turn.proofs.arms.arms.Goals as goal

pub loop-k-init : goal.loop-k-init
loop-k-init c = record {
  code = end_coded c.args.digits c.args.numbers.now c.args.last c.args.p.now.blocks c.in_ok-first.first.commands c.new-pieces.result c.push.new.self c.in_ok-first.ensures.code c.new-pieces.ensures c.in_ok-push.ensures.ok;
  effect = all_start c.args.digits c.args.numbers.now c.args.last c.in_ok-first.first.commands c.new-pieces.result c.push.new.self c.in_ok-first.ensures.effect c.new-pieces.ensures c.in_ok-push.ensures.ok;
}

pub push_block-requires : goal.push_block-requires
push_block-requires c =
    let number : c.first_of.result ≡ slice_index (first_numbers 1 c.args.p.now.blocks) c.loop-k.k = c.first_of.ensures ∙ ap (λ xs. slice_index xs c.loop-k.k) c.requires.numbers in
    record { digits = c.requires.digits; few = omega (arith, number, c.requires.few, block_within c.args.p.now.blocks c.loop-k.k c.in-Some.ops.now c.in-Some.ensures.ops) }

pub loop-k-preserved : goal.loop-k-preserved
loop-k-preserved c = record {
  code = blocks_coded c.args.digits c.args.numbers.now c.args.last c.loop-k.k c.args.p.now.blocks c.in-Some.ops.now (add_code 0 0 255) c.loop-k.pieces c.push_block.new.pieces c.requires.numbers c.in-Some.ensures.ops c.loop-k.invariant.code
      (subst (λ n. c.push_block.new.pieces ≡ c.loop-k.pieces ++ arms_code c.args.digits c.args.numbers.now c.args.last n c.in-Some.ops.now) c.first_of.ensures c.in_ok-push_block.ensures.code);
  effect = block_pushed c.args.digits c.args.numbers.now c.args.last c.loop-k.k c.args.p.now.blocks c.in-Some.ops.now c.loop-k.pieces c.push_block.new.pieces c.requires.numbers c.in-Some.ensures.ops c.loop-k.invariant.effect
      (subst (λ n. HasMore c.args.digits c.args.numbers.now c.args.last n c.in-Some.ops.now c.loop-k.pieces c.push_block.new.pieces) c.first_of.ensures c.in_ok-push_block.ensures.effect);
}

pub returns-clause-code : goal.returns-clause-code
returns-clause-code c =
    let all : length c.args.p.now.blocks ≤ c.loop-k.k = omega (arith, c.loop-k-test.false, c.block_count-k-end.ensures.count) in
    subst (λ xs. c.loop-k.pieces ≡ add_code 0 0 255 ∷ arms_code c.args.digits c.args.numbers.now c.args.last 1 (all_ops xs)) (all_taken c.loop-k.k c.args.p.now.blocks all) c.loop-k.invariant.code

pub returns-clause-effect : goal.returns-clause-effect
returns-clause-effect c =
    let all : length c.args.p.now.blocks ≤ c.loop-k.k = omega (arith, c.loop-k-test.false, c.block_count-k-end.ensures.count) in
    subst (λ xs. HasAll c.args.digits c.args.numbers.now c.args.last xs c.loop-k.pieces) (all_taken c.loop-k.k c.args.p.now.blocks all) c.loop-k.invariant.effect
