use Rattle.std.proofs.Common.{◌≡◌, ℕ, [], ◌++◌, ap, ◌∙◌}
use Rattle.bf_tape.specs.Code.{goto_code}
use Rattle.bf_tape.specs.Piece.{Piece, joined}
use Rattle.bf_word.proofs.Codes.{next_code}
use Rattle.bf_jump.specs.Note.{note_cell, cell_at, drop_code}
use Rattle.bf_jump.specs.Goal.{drop_marks_code}
use Rattle.bf_jump.proofs.Decided.{stays}
use Rattle.bf_jump.proofs.deciding.staying.Goals as goal

pub returns-clause-effect : goal.returns-clause-effect
returns-clause-effect c = stays c.args.digits c.requires c.begin-piece.ensures c.in_ok-drop_note.ensures.effect c.in_ok-drop_marks.ensures.effect c.in_ok-goto.ensures.effect (ap (λ p. p.cell) c.in_ok-goto.ensures.code)

first_then : {p q : Piece} (d : ℕ) → p ≡ record { commands = []; cell = 0 } → q ≡ joined p (drop_code p.cell d) (cell_at note_cell p.cell d) → q ≡ record { commands = drop_code 0 d; cell = cell_at note_cell 0 d }
first_then d from first = first ∙ ap (λ p. joined p (drop_code p.cell d) (cell_at note_cell p.cell d)) from

pub returns-clause-code : goal.returns-clause-code
returns-clause-code c =
    let d = c.args.digits in
    let k1 = cell_at note_cell 0 d in
    ap (λ p. p.commands)
    (next_code 103 0 (drop_code 0 d ++ drop_marks_code k1) (λ k. goto_code k 0)
    (next_code k1 103 (drop_code 0 d) (λ k. drop_marks_code k) (first_then d c.begin-piece.ensures c.in_ok-drop_note.ensures.code) c.in_ok-drop_marks.ensures.code) c.in_ok-goto.ensures.code)
