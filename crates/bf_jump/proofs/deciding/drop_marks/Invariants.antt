use Rattle.std.proofs.Common.{◌≡◌, ◌*◌}
use Rattle.bf_tape.specs.Code.{clear_code}
use Rattle.bf_tape.specs.Piece.{joined, Adds, any}
use Rattle.bf_jump.specs.Note.{row, cell_at, each_code}
use Rattle.bf_jump.specs.Goal.{mark_cell}
use Rattle.bf_jump.proofs.deciding.drop_marks.Given as goal

abbrev pub invariant-loop-i : goal.invariant-loop-i
invariant-loop-i l = record {
  code : l.f ≡ joined l.fn.f (each_code (λ k j. clear_code k (mark_cell j)) mark_cell l.fn.f.cell l.i) (cell_at mark_cell l.fn.f.cell l.i);
  effect : Adds l.fn.f l.f any (λ input s. row mark_cell (λ j. 0) l.i s) (l.i * 1024) (l.i * 512);
}
