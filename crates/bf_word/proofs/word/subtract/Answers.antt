use Rattle.std.proofs.Common.{arith}
use Rattle.bf_word.proofs.Chain.{adds_aside}
use Rattle.bf_word.proofs.Calls.{subtract_adds}
use Rattle.bf_word.proofs.word.subtract.Goals as goal

pub returns-clause-effect : goal.returns-clause-effect
returns-clause-effect c =
    adds_aside c.append.result c.args.f.now c.append.new.f c.append.ensures.ok c.aside-piece.ensures.piece
    (subtract_adds c.args.a c.args.b 0 c.requires.a c.requires.b (omega arith) c.in_ok-dup_word.ensures.effect c.in_ok-dup_word-2.ensures.effect c.in_ok-lower_by.ensures.effect)
