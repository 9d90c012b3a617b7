use Rattle.bf_word.proofs.Chain.{adds_aside}
use Rattle.bf_word.proofs.Calls.{set_adds}
use Rattle.word24.specs.Word.{number_of}
use Rattle.bf_word.proofs.word.set.Goals as goal

pub returns-clause-effect : goal.returns-clause-effect
returns-clause-effect c =
    adds_aside c.append.result c.args.f.now c.append.new.f c.append.ensures.ok c.aside-piece.ensures.piece
    (set_adds c.args.w c.get-number.result (number_of c.args.v) c.get-number.ensures.value c.in_ok-clear.ensures.effect c.in_ok-add_const.ensures.effect c.in_ok-clear-2.ensures.effect c.in_ok-add_const-2.ensures.effect c.in_ok-clear-3.ensures.effect c.in_ok-add_const-3.ensures.effect)
