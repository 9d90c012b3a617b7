use Rattle.std.proofs.Common.{true, false}
use Rattle.bf_ops.proofs.Acts.{on_ok}
use Rattle.bf_ops.proofs.Coded.{code_as, none_code}
use Rattle.bf_jump.specs.Pose.{flag_code, flag_cell}
use Rattle.bf_jump.proofs.Asked.{raised_flag, left_flag}
use Rattle.bf_jump.proofs.posing.raise_flag.Goals as goal

pub returns-then-on-clause-effect : goal.returns-then-on-clause-effect
returns-then-on-clause-effect c = on_ok c.add_const.result (raised_flag c.args.cell c.args.on c.if-on.true) c.add_const.ensures.effect

pub returns-clause-effect : goal.returns-clause-effect
returns-clause-effect c = left_flag c.args.f.now c.args.cell c.args.on c.if-on.false

pub returns-then-on-clause-code : goal.returns-then-on-clause-code
returns-then-on-clause-code c = on_ok c.add_const.result (code_as c.args.f.now (λ b. flag_code c.args.f.now.cell c.args.cell b) (λ b. flag_cell c.args.f.now.cell c.args.cell b) c.args.on true c.if-on.true) c.add_const.ensures.code

pub returns-clause-code : goal.returns-clause-code
returns-clause-code c = code_as c.args.f.now (λ b. flag_code c.args.f.now.cell c.args.cell b) (λ b. flag_cell c.args.f.now.cell c.args.cell b) c.args.on false c.if-on.false (none_code c.args.f.now)
