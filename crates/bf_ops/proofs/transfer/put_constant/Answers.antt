use Rattle.bf_word.proofs.Chain.{adds_aside}
use Rattle.bf_ops.proofs.Acts.{put_constant_adds}
use Rattle.std.proofs.Common.{◌%◌, ◌++◌, ap, ◌∙◌}
use Rattle.word24.specs.Word.{number_of}
use Rattle.bf_tape.specs.Code.{clear_code, add_code, write_code}
use Rattle.bf_tape.specs.Piece.{joined}
use Rattle.bf_ops.specs.OpsCode.{put_constant_code}
use Rattle.bf_word.proofs.Codes.{first_code, next_code, aside_code}
use Rattle.bf_ops.proofs.transfer.put_constant.Goals as goal

pub returns-clause-effect : goal.returns-clause-effect
returns-clause-effect c =
    adds_aside c.append.result c.args.f.now c.append.new.f c.append.ensures.ok c.aside-piece.ensures.piece
    (put_constant_adds (number_of c.args.word) (c.get.result % 256) (ap (λ n. n % 256) c.get.ensures.value) c.in_ok-add_const.ensures.effect c.in_ok-write.ensures.effect c.in_ok-clear.ensures.effect)

pub returns-clause-code : goal.returns-clause-code
returns-clause-code c =
    aside_code c.append.result c.args.f.now c.append.new.f (put_constant_code c.args.f.now.cell (number_of c.args.word)) 110 c.append.ensures.ok
    (next_code 110 110 (add_code c.args.f.now.cell 110 (number_of c.args.word % 256) ++ write_code 110 110) (λ k. clear_code k 110)
    (next_code 110 110 (add_code c.args.f.now.cell 110 (number_of c.args.word % 256)) (λ k. write_code k 110)
    (first_code c.args.f.now.cell 110 (λ k. add_code k 110 (number_of c.args.word % 256)) c.aside-piece.ensures.piece (c.in_ok-add_const.ensures.code ∙ ap (λ n. joined c.aside-piece.result (add_code c.aside-piece.result.cell 110 (n % 256)) 110) c.get.ensures.value))
    c.in_ok-write.ensures.code) c.in_ok-clear.ensures.code)
