use Rattle.std.proofs.Common.{◌≡◌, ◌+◌, ◌*◌, refl, subst, arith}
use Rattle.bf_tape.specs.Code.{clear_code}
use Rattle.bf_tape.specs.Piece.{joined, Adds, any}
use Rattle.bf_choice.proofs.Aimed.{none_at_first, joined_none}
use Rattle.bf_jump.specs.Note.{row, cell_at, each_code}
use Rattle.bf_jump.specs.Goal.{mark_cell}
use Rattle.bf_jump.proofs.Rows.{each_coded, clear_more}
use Rattle.bf_jump.proofs.deciding.drop_marks.Goals as goal

pub loop-i-init : goal.loop-i-init
loop-i-init c = record { code = joined_none c.args.f.now; effect = none_at_first c.args.f.now any }

pub loop-i-preserved : goal.loop-i-preserved
loop-i-preserved c = record {
  code = each_coded c.args.f.now (λ k j. clear_code k (mark_cell j)) mark_cell c.loop-i.i c.loop-i.invariant.code c.in_ok-clear.ensures.code;
  effect = clear_more mark_cell c.loop-i.i (10 * c.loop-i.i + 53) refl c.loop-i.invariant.effect c.in_ok-clear.ensures.effect;
}

pub returns-clause-code : goal.returns-clause-code
returns-clause-code c =
    let ends : c.loop-i.i ≡ 6 = omega (arith, c.loop-i-test.false, c.loop-i.auto.i-end) in
    subst (λ n. c.loop-i.f ≡ joined c.args.f.now (each_code (λ k j. clear_code k (mark_cell j)) mark_cell c.args.f.now.cell n) (cell_at mark_cell c.args.f.now.cell n)) ends c.loop-i.invariant.code

pub returns-clause-effect : goal.returns-clause-effect
returns-clause-effect c =
    let ends : c.loop-i.i ≡ 6 = omega (arith, c.loop-i-test.false, c.loop-i.auto.i-end) in
    subst (λ n. Adds c.args.f.now c.loop-i.f any (λ input s. row mark_cell (λ j. 0) n s) (n * 1024) (n * 512)) ends c.loop-i.invariant.effect
