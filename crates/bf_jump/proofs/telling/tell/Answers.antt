use Rattle.std.proofs.Common.{◌++◌}
use Rattle.bf_tape.specs.Code.{drain_code}
use Rattle.bf_word.specs.WordCode.{move_word_code, clear_word_code, lower_code}
use Rattle.bf_ops.proofs.Serving.{behind}
use Rattle.bf_jump.specs.Tell.{same_code}
use Rattle.bf_jump.proofs.Tells.{tells}
use Rattle.bf_jump.proofs.telling.tell.Goals as goal

pub returns-clause-effect : goal.returns-clause-effect
returns-clause-effect c = tells c.in_ok-move_word.ensures.effect c.in_ok-lower_by.ensures.effect c.in_ok-tell_same.ensures.effect c.in_ok-clear_word.ensures.effect c.in_ok-drain.ensures.effect

pub returns-clause-code : goal.returns-clause-code
returns-clause-code c =
    let p = c.args.f.now in
    let h = p.cell in
    behind p (move_word_code h 87 114 ++ lower_code 89 114 97 ++ same_code 99 ++ clear_word_code 47 114) 116 (λ k. drain_code k 123 49) 123
    (behind p (move_word_code h 87 114 ++ lower_code 89 114 97 ++ same_code 99) 47 (λ k. clear_word_code k 114) 116
    (behind p (move_word_code h 87 114 ++ lower_code 89 114 97) 99 (λ k. same_code k) 47
    (behind p (move_word_code h 87 114) 89 (λ k. lower_code k 114 97) 99 c.in_ok-move_word.ensures.code c.in_ok-lower_by.ensures.code)
    c.in_ok-tell_same.ensures.code) c.in_ok-clear_word.ensures.code) c.in_ok-drain.ensures.code
