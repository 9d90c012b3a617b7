use Rattle.std.proofs.Common.{◌≡◌, ◌*◌, ◌^◌}
use Rattle.bf_tape.specs.Piece.{joined, Adds, any}
use Rattle.bf_choice.specs.Choice.{digit_cell, advance_code, advanced}
use Rattle.bf_choice.proofs.aiming.advance.Given as goal

abbrev pub invariant-loop-digit : goal.invariant-loop-digit
invariant-loop-digit l = record {
  code : l.piece ≡ joined l.fn.piece (advance_code l.fn.piece.cell l.digit) (digit_cell l.fn.piece.cell l.digit);
  effect : Adds l.fn.piece l.piece any (λ input s. advanced l.digit s) (l.digit * 2 ^ 18) (l.digit * 1024);
}
