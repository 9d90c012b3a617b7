use Rattle.std.proofs.Common.{◌+◌, ap, subst, sym, ◌∙◌}
use Rattle.eir_core.specs.declared.ops.Operand.TheVariants.{Reg as register, Imm}
use Rattle.bf_tape.specs.Piece.{joined}
use Rattle.bf_word.specs.Word.{AreDistinct, IsOutside}
use Rattle.bf_word.specs.WordCode.{dup_word_code}
use Rattle.bf_ops.specs.OpsCode.{bring_code, bring_cell}
use Rattle.bf_ops.proofs.Acts.{on_ok}
use Rattle.bf_ops.proofs.Coded.{code_as}
use Rattle.bf_jump.proofs.Asked.{brought_register, brought_constant}
use Rattle.bf_jump.proofs.posing.bring.Goals as goal

pub returns-in-Reg-clause-effect : goal.returns-in-Reg-clause-effect
returns-in-Reg-clause-effect c = on_ok c.dup_word.result (brought_register c.args.operand c.in-Reg.reg c.cell_of-cell.result c.args.to c.in-Reg.is c.cell_of-cell.ensures.cell) c.dup_word.ensures.effect

pub returns-in-Imm-clause-effect : goal.returns-in-Imm-clause-effect
returns-in-Imm-clause-effect c = on_ok c.set.result (brought_constant c.args.operand c.in-Imm.word c.args.to c.in-Imm.is) c.set.ensures.effect

pub returns-in-Reg-clause-code : goal.returns-in-Reg-clause-code
returns-in-Reg-clause-code c =
    on_ok c.dup_word.result (λ e. code_as c.args.f.now (λ v. bring_code c.args.f.now.cell v c.args.to) (λ v. bring_cell v c.args.to) c.args.operand (register c.in-Reg.reg) c.in-Reg.is (e ∙ ap (λ k. joined c.args.f.now (dup_word_code c.args.f.now.cell k c.args.to (k + 3)) (k + 3)) c.cell_of-cell.ensures.cell)) c.dup_word.ensures.code

pub returns-in-Imm-clause-code : goal.returns-in-Imm-clause-code
returns-in-Imm-clause-code c =
    on_ok c.set.result (code_as c.args.f.now (λ v. bring_code c.args.f.now.cell v c.args.to) (λ v. bring_cell v c.args.to) c.args.operand (Imm c.in-Imm.word) c.in-Imm.is) c.set.ensures.code

pub dup_word-requires-clause-distinct : goal.dup_word-requires-clause-distinct
dup_word-requires-clause-distinct c = subst (λ w. AreDistinct w c.args.to) (sym c.cell_of-cell.ensures.cell) (c.requires.aside c.in-Reg.reg).0

pub dup_word-requires-clause-to_spare : goal.dup_word-requires-clause-to_spare
dup_word-requires-clause-to_spare c = subst (λ w. IsOutside (w + 3) c.args.to) (sym c.cell_of-cell.ensures.cell) (c.requires.aside c.in-Reg.reg).1
