use Rattle.std.proofs.Common.{◌≡◌, ◌*◌, ◌^◌, subst, arith}
use Rattle.bf_tape.specs.Piece.{joined, Adds, any}
use Rattle.bf_choice.specs.Choice.{digit_cell, advance_code, advanced}
use Rattle.bf_choice.proofs.Aimed.{none_at_first, advance_more, joined_none, advance_coded}
use Rattle.bf_choice.proofs.aiming.advance.Goals as goal

pub loop-digit-init : goal.loop-digit-init
loop-digit-init c = record { code = joined_none c.args.piece.now; effect = none_at_first c.args.piece.now any }

pub loop-digit-preserved : goal.loop-digit-preserved
loop-digit-preserved c = record { code = advance_coded c.args.piece.now c.loop-digit.digit c.loop-digit.invariant.code c.in_ok-move_to.ensures.code; effect = advance_more c.loop-digit.digit c.loop-digit.invariant.effect c.in_ok-move_to.ensures.effect }

pub returns-clause-code : goal.returns-clause-code
returns-clause-code c =
    let ends : c.loop-digit.digit ≡ c.args.digits = omega (arith, c.loop-digit-test.false, c.loop-digit.auto.digit-end) in
    subst (λ k. c.loop-digit.piece ≡ joined c.args.piece.now (advance_code c.args.piece.now.cell k) (digit_cell c.args.piece.now.cell k)) ends c.loop-digit.invariant.code

pub returns-clause-effect : goal.returns-clause-effect
returns-clause-effect c =
    let ends : c.loop-digit.digit ≡ c.args.digits = omega (arith, c.loop-digit-test.false, c.loop-digit.auto.digit-end) in
    subst (λ k. Adds c.args.piece.now c.loop-digit.piece any (λ input s. advanced k s) (k * 2 ^ 18) (k * 1024)) ends c.loop-digit.invariant.effect
