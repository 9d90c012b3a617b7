use Rattle.std.proofs.Common.{◌≡◌, ℕ, [], ◌++◌, ap, ◌∙◌}
use Rattle.eir_core.specs.declared.ops.Reg.TheVariants.{BP}
use Rattle.bf_tape.specs.Code.{goto_code}
use Rattle.bf_tape.specs.Piece.{Piece, joined}
use Rattle.bf_word.proofs.Codes.{next_code}
use Rattle.bf_jump.specs.Note.{aim_cell, note_cell, cell_at, open_code, take_code}
use Rattle.bf_jump.specs.Goal.{mark_of, take_blocks_code}
use Rattle.bf_jump.proofs.Decided.{takes}
use Rattle.bf_jump.proofs.deciding.taking.Goals as goal

pub returns-clause-effect : goal.returns-clause-effect
returns-clause-effect c =
    takes c.args.digits c.requires c.begin-piece.ensures c.in_ok-leave_open.ensures.effect c.in_ok-take_note.ensures.effect c.in_ok-take_blocks.ensures.effect c.in_ok-goto.ensures.effect (ap (λ p. p.cell) c.in_ok-goto.ensures.code)

opened_then : {p q r : Piece} (d : ℕ) → p ≡ record { commands = []; cell = 0 } → q ≡ joined p (open_code p.cell d) (cell_at aim_cell p.cell d) → r ≡ joined q (take_code q.cell d) (cell_at note_cell q.cell d)
    → r ≡ record { commands = open_code 0 d ++ take_code (cell_at aim_cell 0 d) d; cell = cell_at note_cell (cell_at aim_cell 0 d) d }
opened_then d from first second = second ∙ ap (λ q. joined q (take_code q.cell d) (cell_at note_cell q.cell d)) (first ∙ ap (λ p. joined p (open_code p.cell d) (cell_at aim_cell p.cell d)) from)

pub returns-clause-code : goal.returns-clause-code
returns-clause-code c =
    let d = c.args.digits in
    let k1 = cell_at aim_cell 0 d in
    let k2 = cell_at note_cell k1 d in
    ap (λ p. p.commands)
    (next_code (mark_of BP) 0 (open_code 0 d ++ take_code k1 d ++ take_blocks_code k2) (λ k. goto_code k 0)
    (next_code k2 (mark_of BP) (open_code 0 d ++ take_code k1 d) (λ k. take_blocks_code k)
    (opened_then d c.begin-piece.ensures c.in_ok-leave_open.ensures.code c.in_ok-take_note.ensures.code) c.in_ok-take_blocks.ensures.code) c.in_ok-goto.ensures.code)
