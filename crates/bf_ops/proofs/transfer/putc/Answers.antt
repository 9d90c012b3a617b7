use Rattle.bf_ops.proofs.Acts.{on_ok, put_of_register, put_of_constant}
use Rattle.std.proofs.Common.{ap, ◌∙◌}
use Rattle.eir_core.specs.declared.ops.Operand.TheVariants.{Reg as register, Imm}
use Rattle.bf_tape.specs.Code.{write_code}
use Rattle.bf_tape.specs.Piece.{joined}
use Rattle.bf_ops.specs.OpsCode.{putc_code, putc_cell}
use Rattle.bf_ops.proofs.Coded.{code_as}
use Rattle.bf_ops.proofs.transfer.putc.Goals as goal

pub returns-in-Imm-clause-effect : goal.returns-in-Imm-clause-effect
returns-in-Imm-clause-effect c = on_ok c.put_constant.result (put_of_constant c.args.operand c.in-Imm.word c.in-Imm.is) c.put_constant.ensures.effect

pub returns-in-Reg-clause-effect : goal.returns-in-Reg-clause-effect
returns-in-Reg-clause-effect c = on_ok c.write.result (put_of_register c.args.operand c.in-Reg.reg c.cell_of.result c.in-Reg.is c.cell_of.ensures.cell) c.write.ensures.effect

pub returns-in-Imm-clause-code : goal.returns-in-Imm-clause-code
returns-in-Imm-clause-code c =
    on_ok c.put_constant.result (code_as c.args.f.now (putc_code c.args.f.now.cell) putc_cell c.args.operand (Imm c.in-Imm.word) c.in-Imm.is) c.put_constant.ensures.code

pub returns-in-Reg-clause-code : goal.returns-in-Reg-clause-code
returns-in-Reg-clause-code c =
    on_ok c.write.result (λ e. code_as c.args.f.now (putc_code c.args.f.now.cell) putc_cell c.args.operand (register c.in-Reg.reg) c.in-Reg.is (e ∙ ap (λ w. joined c.args.f.now (write_code c.args.f.now.cell w) w) c.cell_of.ensures.cell)) c.write.ensures.code
