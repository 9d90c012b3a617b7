use Rattle.bf_word.specs.Word.{AreDistinct}
use Rattle.bf_word.proofs.Chain.{adds_aside}
use Rattle.bf_ops.proofs.Acts.{copy_adds}
use Rattle.std.proofs.Common.{◌+◌, inl, inr}
use Rattle.bf_word.specs.WordCode.{dup_word_code, clear_word_code}
use Rattle.bf_ops.specs.OpsCode.{copy_code}
use Rattle.bf_word.proofs.Codes.{first_code, next_code, aside_code}
use Rattle.bf_ops.proofs.arithmetic.copy.Goals as goal

turned : (v w : _) → AreDistinct v w → AreDistinct w v
turned v w (inl h) = inr h
turned v w (inr h) = inl h

pub returns-clause-effect : goal.returns-clause-effect
returns-clause-effect c =
    adds_aside c.append.result c.args.f.now c.append.new.f c.append.ensures.ok c.aside-piece.ensures.piece
    (copy_adds c.args.to c.args.from c.requires.distinct (turned c.args.from c.args.to c.requires.distinct) c.requires.spare c.in_ok-clear_word.ensures.effect c.in_ok-dup_word.ensures.effect)

pub returns-clause-code : goal.returns-clause-code
returns-clause-code c =
    aside_code c.append.result c.args.f.now c.append.new.f (copy_code c.args.f.now.cell c.args.to c.args.from) (c.args.from + 3) c.append.ensures.ok
    (next_code (c.args.to + 2) (c.args.from + 3) (clear_word_code c.args.f.now.cell c.args.to) (λ k. dup_word_code k c.args.from c.args.to (c.args.from + 3))
    (first_code c.args.f.now.cell (c.args.to + 2) (λ k. clear_word_code k c.args.to) c.aside-piece.ensures.piece c.in_ok-clear_word.ensures.code) c.in_ok-dup_word.ensures.code)
