use Rattle.std.proofs.Common.{◌≡◌, ◌*◌}
use Rattle.bf_tape.specs.Piece.{joined, Adds}
use Rattle.bf_choice.specs.Choice.{digit_cell, aim_code, aimed, AreFree}
use Rattle.bf_choice.proofs.aiming.aim.Given as goal

abbrev pub invariant-loop-digit : goal.invariant-loop-digit
invariant-loop-digit l = record {
  code : l.piece ≡ joined l.fn.piece (aim_code l.fn.piece.cell l.digit l.number) (digit_cell l.fn.piece.cell l.digit);
  effect : Adds l.fn.piece l.piece (AreFree l.digits) (λ input s. aimed l.digit l.number s) (l.digit * 512) (l.digit * 512);
}
