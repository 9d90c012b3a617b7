use Rattle.std.proofs.Common.{◌++◌, ap, ◌∙◌}
use Rattle.bf_tape.specs.Code.{goto_code, if_code, times_code}
use Rattle.bf_tape.specs.Piece.{joined}
use Rattle.bf_word.proofs.Codes.{first_code, next_code}
use Rattle.bf_jump.specs.Tell.{tell_code}
use Rattle.bf_jump.specs.Goal.{taking_code, staying_code}
use Rattle.bf_jump.proofs.Decided.{decides}
use Rattle.bf_jump.proofs.deciding.decide.Goals as goal

pub returns-clause-effect : goal.returns-clause-effect
returns-clause-effect c =
    decides c.args.digits c.requires c.begin-body.ensures c.in_ok-tell.ensures.effect c.in_ok-taken.ensures.effect c.in_ok-left.ensures.effect c.in_ok-if_else.ensures.effect (ap (λ p. p.cell) c.in_ok-if_else.ensures.code) c.in_ok-goto.ensures.effect (ap (λ p. p.cell) c.in_ok-goto.ensures.code)
    c.in_ok-times.ensures.effect (ap (λ p. p.cell) c.in_ok-times.ensures.code)

pub returns-clause-code : goal.returns-clause-code
returns-clause-code c =
    let d = c.args.digits in
    c.in_ok-times.ensures.code
    ∙ ap (λ q. joined c.args.f.now (times_code c.args.f.now.cell 48 q.commands) 48)
    (next_code 43 48 (tell_code 48 ++ if_code 123 49 43 (taking_code d) (staying_code d)) (λ k. goto_code k 48)
    (next_code 123 43 (tell_code 48) (λ k. if_code k 49 43 (taking_code d) (staying_code d)) (first_code 48 123 (λ k. tell_code k) c.begin-body.ensures c.in_ok-tell.ensures.code)
    (c.in_ok-if_else.ensures.code ∙ (λ i. joined c.tell.new.f (if_code c.tell.new.f.cell 49 43 (c.in_ok-taken.ensures.code i) (c.in_ok-left.ensures.code i)) 43))) c.in_ok-goto.ensures.code)
