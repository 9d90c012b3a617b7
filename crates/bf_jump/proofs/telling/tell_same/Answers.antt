use Rattle.std.proofs.Common.{◌++◌, ap, ◌∙◌}
use Rattle.bf_tape.specs.Code.{goto_code, clear_code, times_code}
use Rattle.bf_tape.specs.Piece.{joined}
use Rattle.bf_word.specs.WordCode.{once_code}
use Rattle.bf_word.proofs.Codes.{first_code, next_code}
use Rattle.bf_jump.proofs.Tells.{same_told}
use Rattle.bf_jump.proofs.telling.tell_same.Goals as goal

pub returns-clause-effect : goal.returns-clause-effect
returns-clause-effect c = same_told c.begin-body.ensures c.in_ok-clear.ensures.effect c.in_ok-lower_once.ensures.effect c.in_ok-goto.ensures.effect (ap (λ p. p.cell) c.in_ok-goto.ensures.code) c.in_ok-times.ensures.effect (ap (λ p. p.cell) c.in_ok-times.ensures.code)

pub returns-clause-code : goal.returns-clause-code
returns-clause-code c =
    c.in_ok-times.ensures.code
    ∙ ap (λ q. joined c.args.f.now (times_code c.args.f.now.cell 47 q.commands) 47)
    (next_code 114 47 (clear_code 47 123 ++ once_code 123 114) (λ k. goto_code k 47)
    (next_code 123 114 (clear_code 47 123) (λ k. once_code k 114) (first_code 47 123 (λ k. clear_code k 123) c.begin-body.ensures c.in_ok-clear.ensures.code) c.in_ok-lower_once.ensures.code) c.in_ok-goto.ensures.code)
