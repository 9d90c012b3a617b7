use Rattle.eir_core.specs.declared.ops.Operand.TheVariants.{Reg as register, Imm}
use Rattle.bf_ops.proofs.Acts.{on_ok}
use Rattle.bf_ops.proofs.Coded.{code_as}
use Rattle.bf_jump.specs.Pose.{pose_code}
use Rattle.bf_jump.proofs.Asked.{posed_as_known}
use Rattle.bf_jump.proofs.posing.pose.Goals as goal

pub returns-in-Imm-clause-effect : goal.returns-in-Imm-clause-effect
returns-in-Imm-clause-effect c = on_ok c.pose_constant.result (posed_as_known c.args.test c.args.reg c.args.operand (Imm c.in-Imm.word) c.in-Imm.is) c.pose_constant.ensures.effect

pub returns-in-Reg-clause-effect : goal.returns-in-Reg-clause-effect
returns-in-Reg-clause-effect c = on_ok c.pose_far.result (posed_as_known c.args.test c.args.reg c.args.operand (register c.in-Reg.other) c.in-Reg.is) c.pose_far.ensures.effect

pub returns-in-Imm-clause-code : goal.returns-in-Imm-clause-code
returns-in-Imm-clause-code c = on_ok c.pose_constant.result (code_as c.args.f.now (λ v. pose_code c.args.f.now.cell c.args.test c.args.reg v) (λ v. 48) c.args.operand (Imm c.in-Imm.word) c.in-Imm.is) c.pose_constant.ensures.code

pub returns-in-Reg-clause-code : goal.returns-in-Reg-clause-code
returns-in-Reg-clause-code c = on_ok c.pose_far.result (code_as c.args.f.now (λ v. pose_code c.args.f.now.cell c.args.test c.args.reg v) (λ v. 48) c.args.operand (register c.in-Reg.other) c.in-Reg.is) c.pose_far.ensures.code
