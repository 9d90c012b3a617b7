use Rattle.std.proofs.Common.{◌≡◌, get_or, sym, length, arith}
use Rattle.std.proofs.lemmas.Grind.{get_or_default_zero}
use Rattle.bf_choice.proofs.Aimed.{joined_none}
use Rattle.bf_turn.proofs.Counts.{count_start, count_more, count_done}
use Rattle.bf_turn.proofs.Coded.{count_coded, counted_coded}
use Rattle.bf_turn.proofs.lookup.count.Goals as goal

pub loop-number-init : goal.loop-number-init
loop-number-init c = record { code = joined_none c.args.f.now; effect = count_start c.args.f.now c.args.digits c.args.numbers.now c.requires.digits }

pub loop-number-preserved : goal.loop-number-preserved
loop-number-preserved c = record {
  code = count_coded c.args.f.now c.args.digits c.args.numbers.now c.loop-number.number-index c.loop-number.invariant.code c.in_ok-count_once.ensures.code;
  effect = count_more c.args.digits c.args.numbers.now c.loop-number.number-index (get_or c.args.numbers.now c.loop-number.number-index 0) c.requires.digits c.loop-number-test.true (sym (get_or_default_zero c.args.numbers.now c.loop-number.number-index (get_or c.args.numbers.now c.loop-number.number-index 0) c.loop-number-test.true)) c.requires.few c.loop-number.invariant.effect c.in_ok-count_once.ensures.effect;
}

pub returns-clause-code : goal.returns-clause-code
returns-clause-code c =
    let ends : c.loop-number.number-index ≡ length c.args.numbers.now = omega (arith, c.loop-number-test.false, c.loop-number.auto.number-index-end) in
    counted_coded c.args.f.now c.args.digits c.args.numbers.now c.loop-number.number-index ends c.loop-number.invariant.code

pub returns-clause-effect : goal.returns-clause-effect
returns-clause-effect c = count_done c.args.digits c.args.numbers.now c.loop-number.number-index c.loop-number-test.false c.loop-number.auto.number-index-end c.loop-number.invariant.effect
