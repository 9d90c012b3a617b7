use Rattle.std.proofs.Common.{◌≡◌, ◌*◌}
use Rattle.bf_tape.specs.Piece.{joined, Adds, any}
use Rattle.bf_jump.specs.Note.{dropped, drop_code, cell_at, note_cell}
use Rattle.bf_jump.proofs.noting.drop_note.Given as goal

abbrev pub invariant-loop-digit : goal.invariant-loop-digit
invariant-loop-digit l = record {
  code : l.f ≡ joined l.fn.f (drop_code l.fn.f.cell l.digit) (cell_at note_cell l.fn.f.cell l.digit);
  effect : Adds l.fn.f l.f any (λ input s. dropped l.digit s) (l.digit * 1024) (l.digit * 512);
}
