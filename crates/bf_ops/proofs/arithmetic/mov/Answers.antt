use Rattle.bf_ops.proofs.Acts.{on_ok, moved_constant, moved_same, moved_copy}
use Rattle.std.proofs.Common.{◌+◌, ap, ◌∙◌}
use Rattle.word24.specs.Word.{number_of}
use Rattle.eir_core.specs.declared.ops.Operand.TheVariants.{Reg as register, Imm}
use Rattle.bf_tape.specs.Piece.{joined}
use Rattle.bf_word.specs.WordCode.{set_code}
use Rattle.bf_ops.specs.Frame.{cell_of}
use Rattle.bf_ops.specs.OpsCode.{copy_code, mov_code, mov_cell}
use Rattle.bf_ops.proofs.Coded.{none_code, code_as, same_code, other_code}
use Rattle.std.proofs.Common.{sym, []}
use Rattle.bf_ops.proofs.arithmetic.mov.Goals as goal

pub returns-in-Imm-clause-effect : goal.returns-in-Imm-clause-effect
returns-in-Imm-clause-effect c = on_ok c.set.result (moved_constant c.args.reg c.args.operand c.in-Imm.word c.cell_of-to.result c.in-Imm.is c.cell_of-to.ensures.cell) c.set.ensures.effect

pub returns-then-from-to-clause-effect : goal.returns-then-from-to-clause-effect
returns-then-from-to-clause-effect c =
    moved_same c.args.f.now c.args.reg c.in-Reg.other c.args.operand c.cell_of-to.result c.cell_of-from.result c.in-Reg.is c.cell_of-to.ensures.cell c.cell_of-from.ensures.cell c.if-from-to.true

pub returns-else-from-to-clause-effect : goal.returns-else-from-to-clause-effect
returns-else-from-to-clause-effect c =
    on_ok c.copy.result (moved_copy c.args.reg c.in-Reg.other c.args.operand c.cell_of-to.result c.cell_of-from.result c.in-Reg.is c.cell_of-to.ensures.cell c.cell_of-from.ensures.cell) c.copy.ensures.effect

pub returns-in-Imm-clause-code : goal.returns-in-Imm-clause-code
returns-in-Imm-clause-code c =
    on_ok c.set.result (λ e. code_as c.args.f.now (mov_code c.args.f.now.cell c.args.reg) (mov_cell c.args.f.now.cell c.args.reg) c.args.operand (Imm c.in-Imm.word) c.in-Imm.is (e ∙ ap (λ k. joined c.args.f.now (set_code c.args.f.now.cell k (number_of c.in-Imm.word)) (k + 2)) c.cell_of-to.ensures.cell)) c.set.ensures.code

pub returns-then-from-to-clause-code : goal.returns-then-from-to-clause-code
returns-then-from-to-clause-code c =
    code_as c.args.f.now (mov_code c.args.f.now.cell c.args.reg) (mov_cell c.args.f.now.cell c.args.reg) c.args.operand (register c.in-Reg.other) c.in-Reg.is (same_code c.args.f.now (cell_of c.in-Reg.other) (cell_of c.args.reg) [] (copy_code c.args.f.now.cell (cell_of c.args.reg) (cell_of c.in-Reg.other)) c.args.f.now.cell (cell_of c.in-Reg.other + 3) (sym c.cell_of-from.ensures.cell ∙ (c.if-from-to.true ∙ c.cell_of-to.ensures.cell)) (none_code c.args.f.now))

pub returns-else-from-to-clause-code : goal.returns-else-from-to-clause-code
returns-else-from-to-clause-code c =
    on_ok c.copy.result (λ e. code_as c.args.f.now (mov_code c.args.f.now.cell c.args.reg) (mov_cell c.args.f.now.cell c.args.reg) c.args.operand (register c.in-Reg.other) c.in-Reg.is (other_code c.args.f.now (cell_of c.in-Reg.other) (cell_of c.args.reg) [] (copy_code c.args.f.now.cell (cell_of c.args.reg) (cell_of c.in-Reg.other)) c.args.f.now.cell (cell_of c.in-Reg.other + 3) (λ same. c.if-from-to.false (c.cell_of-from.ensures.cell ∙ (same ∙ sym c.cell_of-to.ensures.cell))) (e ∙ (λ i. joined c.args.f.now (copy_code c.args.f.now.cell (c.cell_of-to.ensures.cell i) (c.cell_of-from.ensures.cell i)) (c.cell_of-from.ensures.cell i + 3))))) c.copy.ensures.code
