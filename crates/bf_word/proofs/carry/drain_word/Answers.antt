use Rattle.bf_word.proofs.Chain.{adds_aside}
use Rattle.bf_word.proofs.Calls.{drain_adds}
use Rattle.bf_word.proofs.carry.drain_word.Goals as goal

pub returns-clause-effect : goal.returns-clause-effect
returns-clause-effect c =
    adds_aside c.append.result c.args.f.now c.append.new.f c.append.ensures.ok c.aside-piece.ensures.piece
    (drain_adds c.args.from c.args.to c.requires.distinct c.in_ok-drain.ensures.effect c.in_ok-drain-2.ensures.effect c.in_ok-drain-3.ensures.effect)
