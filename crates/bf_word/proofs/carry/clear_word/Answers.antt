use Rattle.bf_word.proofs.Chain.{adds_aside}
use Rattle.bf_word.proofs.Calls.{clear_adds}
use Rattle.bf_word.proofs.carry.clear_word.Goals as goal

pub returns-clause-effect : goal.returns-clause-effect
returns-clause-effect c =
    adds_aside c.append.result c.args.f.now c.append.new.f c.append.ensures.ok c.aside-piece.ensures.piece
    (clear_adds c.args.w c.in_ok-clear.ensures.effect c.in_ok-clear-2.ensures.effect c.in_ok-clear-3.ensures.effect)
