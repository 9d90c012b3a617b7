use Rattle.std.proofs.Common.{◌≤◌, ◌+◌, ◌∙◌, ◌++◌, ◌∷◌, [], ap, sym, arith, length}
use Rattle.std.proofs.lemmas.List.Sums.{sum_by-take-le}
use Rattle.bf_turn.specs.Number.{first_numbers}
use Rattle.bf_turn.proofs.Listed.{first_more, sum_more, all_taken}
use Rattle.bf_turn.proofs.number.first_numbers.Goals as goal

pub overflow_add-number : goal.overflow_add-number
overflow_add-number c =
    record { fits = omega (arith, c.requires, c.loop-k.invariant.next, sum_more c.args.p.now.blocks c.loop-k.k c.in-Some.ops.now c.in-Some.ensures.ops, sum_by-take-le length c.args.p.now.blocks (c.loop-k.k + 1)) }

pub loop-k-init : goal.loop-k-init
loop-k-init c = record { are = c.new-numbers.ensures.items; next = omega arith }

pub loop-k-preserved : goal.loop-k-preserved
loop-k-preserved c = record {
  are = c.in_ok-push.ensures.items ∙ (ap (λ xs. xs ++ c.loop-k.number ∷ []) c.loop-k.invariant.are ∙ sym (first_more 1 c.args.p.now.blocks c.loop-k.k c.loop-k.number c.in-Some.ops.now c.in-Some.ensures.ops c.loop-k.invariant.next));
  next = omega (arith, c.loop-k.invariant.next, sum_more c.args.p.now.blocks c.loop-k.k c.in-Some.ops.now c.in-Some.ensures.ops);
}

pub returns : goal.returns
returns c =
    let all : length c.args.p.now.blocks ≤ c.loop-k.k = omega (arith, c.loop-k-test.false, c.block_count-k-end.ensures.count) in
    c.loop-k.invariant.are ∙ ap (first_numbers 1) (all_taken c.loop-k.k c.args.p.now.blocks all)
