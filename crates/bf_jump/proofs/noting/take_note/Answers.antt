use Rattle.std.proofs.Common.{◌≡◌, ◌+◌, ◌*◌, ◌^◌, ap, subst, ◌∙◌, arith}
use Rattle.bf_tape.specs.Code.{move_code}
use Rattle.bf_tape.specs.Piece.{joined, Adds, any}
use Rattle.bf_choice.proofs.Aimed.{none_at_first, joined_none}
use Rattle.bf_jump.specs.Note.{taken, take_code, cell_at, note_cell, aim_cell}
use Rattle.bf_jump.proofs.Rows.{each_coded, take_more}
use Rattle.bf_jump.proofs.noting.take_note.Goals as goal

pub loop-digit-init : goal.loop-digit-init
loop-digit-init c = record { code = joined_none c.args.f.now; effect = none_at_first c.args.f.now any }

pub loop-digit-preserved : goal.loop-digit-preserved
loop-digit-preserved c = record {
  code = each_coded c.args.f.now (λ k i. move_code k (note_cell i) (aim_cell i)) note_cell c.loop-digit.digit c.loop-digit.invariant.code (c.in_ok-move_to.ensures.code ∙ ap (λ k. joined c.loop-digit.f (move_code c.loop-digit.f.cell k (3 * c.loop-digit.digit + 3)) k) c.note_cell.ensures.cell);
  effect = take_more c.loop-digit.digit c.note_cell.result c.note_cell.ensures.cell c.loop-digit.invariant.effect c.in_ok-move_to.ensures.effect;
}

pub returns-clause-code : goal.returns-clause-code
returns-clause-code c =
    let ends : c.loop-digit.digit ≡ c.args.digits = omega (arith, c.loop-digit-test.false, c.loop-digit.auto.digit-end) in
    subst (λ k. c.loop-digit.f ≡ joined c.args.f.now (take_code c.args.f.now.cell k) (cell_at note_cell c.args.f.now.cell k)) ends c.loop-digit.invariant.code

pub returns-clause-effect : goal.returns-clause-effect
returns-clause-effect c =
    let ends : c.loop-digit.digit ≡ c.args.digits = omega (arith, c.loop-digit-test.false, c.loop-digit.auto.digit-end) in
    subst (λ k. Adds c.args.f.now c.loop-digit.f any (λ input s. taken k s) (k * 2 ^ 18) (k * 1024)) ends c.loop-digit.invariant.effect
