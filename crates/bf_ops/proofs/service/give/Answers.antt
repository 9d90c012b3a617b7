use Rattle.std.proofs.Common.{◌+◌, ◌++◌, ap, ◌∙◌}
use Rattle.bf_tape.specs.Code.{goto_code, times_code}
use Rattle.bf_tape.specs.Piece.{joined}
use Rattle.bf_word.specs.WordCode.{clear_word_code, move_word_code}
use Rattle.bf_word.proofs.Codes.{first_code, next_code}
use Rattle.bf_ops.proofs.Serving.{gives}
use Rattle.bf_ops.proofs.service.give.Goals as goal

pub returns-clause-effect : goal.returns-clause-effect
returns-clause-effect c =
    gives c.args.reg c.cell_of-cell.result c.cell_of-cell.ensures.cell
    (record {
      from = c.begin-body.ensures;
      clear = c.in_ok-clear_word.ensures.effect;
      move = c.in_ok-move_word.ensures.effect;
      back = c.in_ok-goto.ensures.effect;
      home = ap (λ p. p.cell) c.in_ok-goto.ensures.code;
      times = c.in_ok-times.ensures.effect;
      ends = ap (λ p. p.cell) c.in_ok-times.ensures.code;
    })

pub returns-clause-code : goal.returns-clause-code
returns-clause-code c =
    let w = c.cell_of-cell.result in
    let body =
    next_code 109 (w + 6) (clear_word_code (w + 6) w ++ move_word_code (w + 2) 107 w) (λ k. goto_code k (w + 6))
    (next_code (w + 2) 109 (clear_word_code (w + 6) w) (λ k. move_word_code k 107 w) (first_code (w + 6) (w + 2) (λ k. clear_word_code k w) c.begin-body.ensures c.in_ok-clear_word.ensures.code) c.in_ok-move_word.ensures.code) c.in_ok-goto.ensures.code in
    c.in_ok-times.ensures.code ∙ (ap (λ q. joined c.args.f.now (times_code c.args.f.now.cell (w + 6) q.commands) (w + 6)) body
    ∙ ap (λ v. joined c.args.f.now (times_code c.args.f.now.cell (v + 6) (clear_word_code (v + 6) v ++ move_word_code (v + 2) 107 v ++ goto_code 109 (v + 6))) (v + 6)) c.cell_of-cell.ensures.cell)
