use Rattle.std.proofs.Common.{◌≡◌, ◌*◌, subst, ◌∙◌, arith}
use Rattle.bf_tape.specs.Code.{add_code}
use Rattle.bf_tape.specs.Piece.{joined, Adds}
use Rattle.bf_choice.proofs.Aimed.{none_at_first, joined_none}
use Rattle.bf_jump.specs.Note.{noted, IsNoteFree, note_code, cell_at, note_cell, digit_in}
use Rattle.bf_jump.proofs.Rows.{each_coded, note_more}
use Rattle.bf_jump.proofs.noting.note.Goals as goal

pub loop-digit-init : goal.loop-digit-init
loop-digit-init c = record { code = joined_none c.args.f.now; effect = none_at_first c.args.f.now (IsNoteFree c.args.digits) }

pub loop-digit-preserved : goal.loop-digit-preserved
loop-digit-preserved c = record {
  code = each_coded c.args.f.now (λ k i. add_code k (note_cell i) (digit_in c.args.number i)) note_cell c.loop-digit.digit c.loop-digit.invariant.code (c.in_ok-add_const.ensures.code ∙ (λ i. joined c.loop-digit.f (add_code c.loop-digit.f.cell (c.note_cell.ensures.cell i) (c.digit_of.ensures i)) (c.note_cell.ensures.cell i)));
  effect = note_more c.args.digits c.args.number c.loop-digit.digit c.note_cell.result c.digit_of.result c.loop-digit-test.true c.note_cell.ensures.cell c.digit_of.ensures c.loop-digit.invariant.effect c.in_ok-add_const.ensures.effect;
}

pub returns-clause-code : goal.returns-clause-code
returns-clause-code c =
    let ends : c.loop-digit.digit ≡ c.args.digits = omega (arith, c.loop-digit-test.false, c.loop-digit.auto.digit-end) in
    subst (λ k. c.loop-digit.f ≡ joined c.args.f.now (note_code c.args.number c.args.f.now.cell k) (cell_at note_cell c.args.f.now.cell k)) ends c.loop-digit.invariant.code

pub returns-clause-effect : goal.returns-clause-effect
returns-clause-effect c =
    let ends : c.loop-digit.digit ≡ c.args.digits = omega (arith, c.loop-digit-test.false, c.loop-digit.auto.digit-end) in
    subst (λ k. Adds c.args.f.now c.loop-digit.f (IsNoteFree c.args.digits) (λ input s. noted k c.args.number s) (k * 1024) (k * 512)) ends c.loop-digit.invariant.effect
