use Rattle.std.proofs.Common.{true, false, cond, sym, ◌∙◌}
use Rattle.word24.specs.Word.{number_of}
use Rattle.eir_core.specs.declared.ops.Operand.TheVariants.{Imm}
use Rattle.bf_ops.specs.Frame.{is_negated}
use Rattle.bf_ops.proofs.Acts.{on_ok}
use Rattle.bf_ops.proofs.Coded.{code_as}
use Rattle.bf_jump.specs.Pose.{is_told_near, near_code, far_code}
use Rattle.bf_jump.proofs.Asked.{constant_near, constant_far}
use Rattle.bf_jump.proofs.posing.pose_constant.Goals as goal

pub returns-then-is_told_near-clause-effect : goal.returns-then-is_told_near-clause-effect
returns-then-is_told_near-clause-effect c = on_ok c.pose_near.result (constant_near c.args.test c.args.reg c.args.word c.is_told_near.result c.is_told_near.ensures c.if-is_told_near.true) c.pose_near.ensures.effect

pub returns-clause-effect : goal.returns-clause-effect
returns-clause-effect c = on_ok c.pose_far.result (constant_far c.args.test c.args.reg c.args.word c.is_told_near.result c.is_told_near.ensures c.if-is_told_near.false) c.pose_far.ensures.effect

pub returns-then-is_told_near-clause-code : goal.returns-then-is_told_near-clause-code
returns-then-is_told_near-clause-code c =
    let h = c.args.f.now.cell in
    let x = c.args.reg in
    let w = c.args.word in
    on_ok c.pose_near.result
    (code_as c.args.f.now (λ b. cond b (near_code h (is_negated c.args.test) x (number_of w)) (far_code h c.args.test x (Imm w))) (λ b. 48) (is_told_near c.args.test (number_of w)) true (sym c.is_told_near.ensures ∙ c.if-is_told_near.true))
    c.pose_near.ensures.code

pub returns-clause-code : goal.returns-clause-code
returns-clause-code c =
    let h = c.args.f.now.cell in
    let x = c.args.reg in
    let w = c.args.word in
    on_ok c.pose_far.result
    (code_as c.args.f.now (λ b. cond b (near_code h (is_negated c.args.test) x (number_of w)) (far_code h c.args.test x (Imm w))) (λ b. 48) (is_told_near c.args.test (number_of w)) false (sym c.is_told_near.ensures ∙ c.if-is_told_near.false))
    c.pose_far.ensures.code
