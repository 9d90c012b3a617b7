use Rattle.std.proofs.Common.{◌≡◌, ◌+◌, ◌*◌, refl, subst, arith}
use Rattle.bf_tape.specs.Code.{clear_code}
use Rattle.bf_tape.specs.Piece.{joined, Adds, any}
use Rattle.bf_choice.proofs.Aimed.{none_at_first, joined_none}
use Rattle.bf_jump.specs.Note.{left_open, open_code, cell_at, aim_cell}
use Rattle.bf_jump.proofs.Rows.{each_coded, clear_more}
use Rattle.bf_jump.proofs.noting.leave_open.Goals as goal

pub loop-digit-init : goal.loop-digit-init
loop-digit-init c = record { code = joined_none c.args.f.now; effect = none_at_first c.args.f.now any }

pub loop-digit-preserved : goal.loop-digit-preserved
loop-digit-preserved c = record {
  code = each_coded c.args.f.now (λ k i. clear_code k (aim_cell i)) aim_cell c.loop-digit.digit c.loop-digit.invariant.code c.in_ok-clear.ensures.code;
  effect = clear_more aim_cell c.loop-digit.digit (3 * c.loop-digit.digit + 3) refl c.loop-digit.invariant.effect c.in_ok-clear.ensures.effect;
}

pub returns-clause-code : goal.returns-clause-code
returns-clause-code c =
    let ends : c.loop-digit.digit ≡ c.args.digits = omega (arith, c.loop-digit-test.false, c.loop-digit.auto.digit-end) in
    subst (λ k. c.loop-digit.f ≡ joined c.args.f.now (open_code c.args.f.now.cell k) (cell_at aim_cell c.args.f.now.cell k)) ends c.loop-digit.invariant.code

pub returns-clause-effect : goal.returns-clause-effect
returns-clause-effect c =
    let ends : c.loop-digit.digit ≡ c.args.digits = omega (arith, c.loop-digit-test.false, c.loop-digit.auto.digit-end) in
    subst (λ k. Adds c.args.f.now c.loop-digit.f any (λ input s. left_open k s) (k * 1024) (k * 512)) ends c.loop-digit.invariant.effect
