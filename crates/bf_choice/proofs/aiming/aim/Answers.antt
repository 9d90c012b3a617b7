use Rattle.std.proofs.Common.{◌≡◌, ◌*◌, subst, arith}
use Rattle.bf_tape.specs.Piece.{joined, Adds}
use Rattle.bf_choice.specs.Choice.{digit_cell, aim_code, aimed, AreFree}
use Rattle.bf_choice.proofs.Aimed.{none_at_first, aim_more, joined_none, aim_coded}
use Rattle.bf_choice.proofs.aiming.aim.Goals as goal

pub loop-digit-init : goal.loop-digit-init
loop-digit-init c = record { code = joined_none c.args.piece.now; effect = none_at_first c.args.piece.now (AreFree c.args.digits) }

pub loop-digit-preserved : goal.loop-digit-preserved
loop-digit-preserved c = record {
  code = aim_coded c.args.piece.now c.args.number c.loop-digit.digit c.digit_of.result c.digit_of.ensures c.loop-digit.invariant.code c.in_ok-add_const.ensures.code;
  effect = aim_more c.args.digits c.args.number c.loop-digit.digit c.digit_of.result c.loop-digit-test.true c.digit_of.ensures c.loop-digit.invariant.effect c.in_ok-add_const.ensures.effect;
}

pub returns-clause-code : goal.returns-clause-code
returns-clause-code c =
    let ends : c.loop-digit.digit ≡ c.args.digits = omega (arith, c.loop-digit-test.false, c.loop-digit.auto.digit-end) in
    subst (λ k. c.loop-digit.piece ≡ joined c.args.piece.now (aim_code c.args.piece.now.cell k c.args.number) (digit_cell c.args.piece.now.cell k)) ends c.loop-digit.invariant.code

pub returns-clause-effect : goal.returns-clause-effect
returns-clause-effect c =
    let ends : c.loop-digit.digit ≡ c.args.digits = omega (arith, c.loop-digit-test.false, c.loop-digit.auto.digit-end) in
    subst (λ k. Adds c.args.piece.now c.loop-digit.piece (AreFree c.args.digits) (λ input s. aimed k c.args.number s) (k * 512) (k * 512)) ends c.loop-digit.invariant.effect
