use Rattle.std.proofs.Common.{ap, ◌∙◌, slice_index}
use Rattle.bf_turn.proofs.Turned.{digits_few}
use Rattle.bf_back.proofs.Coded.{begin_coded}
use Rattle.bf_back.proofs.Translated.{opens_of}
use Rattle.bf_back.proofs.translation.beginning.Goals as goal

pub begin-requires : goal.begin-requires
begin-requires c = digits_few c.args.p.now c.digit_count-digits.result c.op_count.result c.requires.size c.op_count.ensures.count c.digit_count-digits.ensures

pub returns-clause-code : goal.returns-clause-code
returns-clause-code c =
    begin_coded c.args.p.now c.words.result.now c.digit_count-digits.result c.op_count.result c.first_of.result c.args.numbers.now c.new-code.ensures c.words.ensures.words c.op_count.ensures.count c.digit_count-digits.ensures c.requires.numbers
    (c.first_of.ensures ∙ ap (λ k. slice_index c.args.numbers.now k) c.start.ensures) c.in_ok-begin.ensures.code

pub returns-clause-opens : goal.returns-clause-opens
returns-clause-opens c =
    opens_of c.args.p.now c.words.result.now c.digit_count-digits.result c.op_count.result c.first_of.result c.args.numbers.now c.op_count.ensures.sound c.new-code.ensures c.in_ok-begin.ensures.cell c.words.ensures.words c.op_count.ensures.count c.digit_count-digits.ensures c.requires.numbers
    (c.first_of.ensures ∙ ap (λ k. slice_index c.args.numbers.now k) c.start.ensures) c.in_ok-begin.ensures.begins
