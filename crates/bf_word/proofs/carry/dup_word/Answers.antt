use Rattle.bf_word.proofs.Chain.{adds_aside}
use Rattle.bf_word.proofs.Calls.{dup_adds}
use Rattle.bf_word.proofs.carry.dup_word.Goals as goal

pub returns-clause-effect : goal.returns-clause-effect
returns-clause-effect c =
    adds_aside c.append.result c.args.f.now c.append.new.f c.append.ensures.ok c.aside-piece.ensures.piece
    (dup_adds c.args.from c.args.to c.requires.distinct c.args.spare c.requires.to_spare c.in_ok-dup.ensures.effect c.in_ok-dup-2.ensures.effect c.in_ok-dup-3.ensures.effect)
