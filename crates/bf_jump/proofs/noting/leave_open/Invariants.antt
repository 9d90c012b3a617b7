use Rattle.std.proofs.Common.{◌≡◌, ◌*◌}
use Rattle.bf_tape.specs.Piece.{joined, Adds, any}
use Rattle.bf_jump.specs.Note.{left_open, open_code, cell_at, aim_cell}
use Rattle.bf_jump.proofs.noting.leave_open.Given as goal

abbrev pub invariant-loop-digit : goal.invariant-loop-digit
invariant-loop-digit l = record {
  code : l.f ≡ joined l.fn.f (open_code l.fn.f.cell l.digit) (cell_at aim_cell l.fn.f.cell l.digit);
  effect : Adds l.fn.f l.f any (λ input s. left_open l.digit s) (l.digit * 1024) (l.digit * 512);
}
