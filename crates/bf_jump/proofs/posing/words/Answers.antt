use Rattle.std.proofs.Common.{◌*◌, ◌^◌, true, false, cond, sym, subst, ◌∙◌}
use Rattle.eir_core.specs.declared.ops.Operand.TheVariants.{Reg as register}
use Rattle.bf_tape.specs.Piece.{Adds}
use Rattle.bf_word.specs.Word.{word_in}
use Rattle.bf_ops.specs.Frame.{cell_of, value_in, IsFrame}
use Rattle.bf_ops.specs.OpsCode.{bring_cell}
use Rattle.bf_ops.proofs.Acts.{on_ok}
use Rattle.bf_ops.proofs.Coded.{code_as}
use Rattle.bf_jump.specs.Pose.{is_turned, words_posed, both_code}
use Rattle.bf_jump.proofs.posing.words.Goals as goal

pub returns-then-is_turned-clause-effect : goal.returns-then-is_turned-clause-effect
returns-then-is_turned-clause-effect c =
    let x = c.args.reg in
    let v = c.args.operand in
    on_ok c.both.result
    (subst (λ b. Adds c.args.f.now c.both.new.f IsFrame (λ input s. cond b (words_posed s (value_in s v) (word_in s (cell_of x))) (words_posed s (word_in s (cell_of x)) (value_in s v))) (6 * 2 ^ 20) (3 * 2 ^ 12)) (sym c.if-is_turned.true ∙ c.is_turned.ensures)) c.both.ensures.effect

pub returns-clause-effect : goal.returns-clause-effect
returns-clause-effect c =
    let x = c.args.reg in
    let v = c.args.operand in
    on_ok c.both-2.result
    (subst (λ b. Adds c.args.f.now c.both-2.new.f IsFrame (λ input s. cond b (words_posed s (value_in s v) (word_in s (cell_of x))) (words_posed s (word_in s (cell_of x)) (value_in s v))) (6 * 2 ^ 20) (3 * 2 ^ 12)) (sym c.if-is_turned.false ∙ c.is_turned.ensures)) c.both-2.ensures.effect

pub returns-then-is_turned-clause-code : goal.returns-then-is_turned-clause-code
returns-then-is_turned-clause-code c =
    let h = c.args.f.now.cell in
    let x = c.args.reg in
    let v = c.args.operand in
    on_ok c.both.result (code_as c.args.f.now (λ b. cond b (both_code h v (register x)) (both_code h (register x) v)) (λ b. cond b (bring_cell (register x) 97) (bring_cell v 97)) (is_turned c.args.test) true (sym c.is_turned.ensures ∙ c.if-is_turned.true)) c.both.ensures.code

pub returns-clause-code : goal.returns-clause-code
returns-clause-code c =
    let h = c.args.f.now.cell in
    let x = c.args.reg in
    let v = c.args.operand in
    on_ok c.both-2.result (code_as c.args.f.now (λ b. cond b (both_code h v (register x)) (both_code h (register x) v)) (λ b. cond b (bring_cell (register x) 97) (bring_cell v 97)) (is_turned c.args.test) false (sym c.is_turned.ensures ∙ c.if-is_turned.false)) c.both-2.ensures.code
