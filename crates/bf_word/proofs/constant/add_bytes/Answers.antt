use Rattle.bf_word.proofs.Chain.{adds_aside}
use Rattle.bf_word.proofs.Told.{bytes_adds}
use Rattle.bf_word.proofs.constant.add_bytes.Goals as goal

pub returns-clause-effect : goal.returns-clause-effect
returns-clause-effect c =
    adds_aside c.append.result c.args.f.now c.append.new.f c.append.ensures.ok c.aside-piece.ensures.piece
    (bytes_adds c.args.w c.args.low c.args.mid c.args.high c.in_ok-add_const.ensures.effect c.in_ok-add_const-2.ensures.effect c.in_ok-add_const-3.ensures.effect)
