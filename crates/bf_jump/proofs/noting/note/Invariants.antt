use Rattle.std.proofs.Common.{◌≡◌, ◌*◌}
use Rattle.bf_tape.specs.Piece.{joined, Adds}
use Rattle.bf_jump.specs.Note.{noted, IsNoteFree, note_code, cell_at, note_cell}
use Rattle.bf_jump.proofs.noting.note.Given as goal

abbrev pub invariant-loop-digit : goal.invariant-loop-digit
invariant-loop-digit l = record {
  code : l.f ≡ joined l.fn.f (note_code l.number l.fn.f.cell l.digit) (cell_at note_cell l.fn.f.cell l.digit);
  effect : Adds l.fn.f l.f (IsNoteFree l.digits) (λ input s. noted l.digit l.number s) (l.digit * 1024) (l.digit * 512);
}
