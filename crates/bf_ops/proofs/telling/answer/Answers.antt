use Rattle.std.proofs.Common.{◌-◌, true, false}
use Rattle.bf_ops.specs.Frame.{cell_of}
use Rattle.bf_ops.specs.OpsCode.{answer_code}
use Rattle.bf_ops.proofs.Acts.{on_ok}
use Rattle.bf_ops.proofs.Coded.{code_as}
use Rattle.bf_ops.proofs.InPlace.{answered_as}
use Rattle.bf_ops.proofs.telling.answer.Goals as goal

pub returns-then-otherwise-clause-effect : goal.returns-then-otherwise-clause-effect
returns-then-otherwise-clause-effect c = on_ok c.answer_other.result (answered_as c.args.otherwise true c.args.reg c.if-otherwise.true) c.answer_other.ensures.effect

pub returns-clause-effect : goal.returns-clause-effect
returns-clause-effect c = on_ok c.answer_same.result (answered_as c.args.otherwise false c.args.reg c.if-otherwise.false) c.answer_same.ensures.effect

pub returns-then-otherwise-clause-code : goal.returns-then-otherwise-clause-code
returns-then-otherwise-clause-code c =
    on_ok c.answer_other.result (code_as c.args.f.now (λ b. answer_code c.args.f.now.cell b c.args.reg) (λ b. cell_of c.args.reg - 1) c.args.otherwise true c.if-otherwise.true) c.answer_other.ensures.code

pub returns-clause-code : goal.returns-clause-code
returns-clause-code c =
    on_ok c.answer_same.result (code_as c.args.f.now (λ b. answer_code c.args.f.now.cell b c.args.reg) (λ b. cell_of c.args.reg - 1) c.args.otherwise false c.if-otherwise.false) c.answer_same.ensures.code
