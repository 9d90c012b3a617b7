use Rattle.bf_turn.proofs.Armed.{if_ok}
use Rattle.bf_turn.proofs.Coded.{turn_coded}
use Rattle.bf_turn.proofs.Turned.{turn_is, digits_few, numbers_few}
use Rattle.bf_turn.proofs.step.turn.Goals as goal

pub returns-clause-code : goal.returns-clause-code
returns-clause-code c =
    if_ok c.around.result
    (λ body. turn_coded c.args.p.now c.digit_count-digits.result c.op_count-last.result c.args.numbers.now c.accesses.result c.branches.result c.in_ok-arms.arms c.in_ok-tree.tree c.in_ok-all.all body.commands c.op_count-last.ensures.count c.digit_count-digits.ensures c.requires.numbers c.accesses.ensures
    c.branches.ensures c.in_ok-arms.ensures.code c.in_ok-tree.ensures c.in_ok-all.ensures.code) c.around.ensures.code

pub returns-clause-turn : goal.returns-clause-turn
returns-clause-turn c =
    if_ok c.around.result
    (λ body. turn_is c.args.p.now c.digit_count-digits.result c.op_count-last.result c.args.numbers.now c.accesses.result c.branches.result c.in_ok-arms.arms c.in_ok-tree.tree c.in_ok-all.all body.commands c.op_count-last.ensures.sound c.requires.size c.op_count-last.ensures.count c.digit_count-digits.ensures
    c.requires.numbers c.accesses.ensures c.branches.ensures c.in_ok-arms.ensures.effect c.in_ok-tree.ensures c.in_ok-all.ensures.effect) c.around.ensures.turn

pub arms-requires-clause-digits : goal.arms-requires-clause-digits
arms-requires-clause-digits c = digits_few c.args.p.now c.digit_count-digits.result c.op_count-last.result c.requires.size c.op_count-last.ensures.count c.digit_count-digits.ensures

pub choose-requires : goal.choose-requires
choose-requires c = digits_few c.args.p.now c.digit_count-digits.result c.op_count-last.result c.requires.size c.op_count-last.ensures.count c.digit_count-digits.ensures

pub around-requires-clause-digits : goal.around-requires-clause-digits
around-requires-clause-digits c = digits_few c.args.p.now c.digit_count-digits.result c.op_count-last.result c.requires.size c.op_count-last.ensures.count c.digit_count-digits.ensures

pub around-requires-clause-few : goal.around-requires-clause-few
around-requires-clause-few c = numbers_few c.args.p.now c.args.numbers.now c.requires.size c.requires.numbers

pub decided-requires : goal.decided-requires
decided-requires c = digits_few c.args.p.now c.digit_count-digits.result c.op_count-last.result c.requires.size c.op_count-last.ensures.count c.digit_count-digits.ensures
