use Rattle.bf_ops.specs.declared.telling.Told.TheVariants.{Same, Smaller, AtMost}
use Rattle.std.proofs.Common.{◌+◌}
use Rattle.bf_ops.specs.Frame.{cell_of}
use Rattle.bf_ops.specs.OpsCode.{tell_code}
use Rattle.bf_ops.proofs.Acts.{on_ok}
use Rattle.bf_ops.proofs.Coded.{code_as}
use Rattle.bf_ops.proofs.InPlace.{told_as}
use Rattle.bf_ops.proofs.telling.tell.Goals as goal

pub returns-in-Same-clause-effect : goal.returns-in-Same-clause-effect
returns-in-Same-clause-effect c = on_ok c.tell_same.result (told_as c.args.comparison Same c.args.reg c.args.operand c.in-Same.is) c.tell_same.ensures.effect

pub returns-in-Same-clause-code : goal.returns-in-Same-clause-code
returns-in-Same-clause-code c =
    on_ok c.tell_same.result (code_as c.args.f.now (λ m. tell_code c.args.f.now.cell m c.args.reg c.args.operand) (λ m. cell_of c.args.reg + 9) c.args.comparison Same c.in-Same.is) c.tell_same.ensures.code

pub returns-in-Smaller-clause-effect : goal.returns-in-Smaller-clause-effect
returns-in-Smaller-clause-effect c = on_ok c.tell_smaller.result (told_as c.args.comparison Smaller c.args.reg c.args.operand c.in-Smaller.is) c.tell_smaller.ensures.effect

pub returns-in-Smaller-clause-code : goal.returns-in-Smaller-clause-code
returns-in-Smaller-clause-code c =
    on_ok c.tell_smaller.result (code_as c.args.f.now (λ m. tell_code c.args.f.now.cell m c.args.reg c.args.operand) (λ m. cell_of c.args.reg + 9) c.args.comparison Smaller c.in-Smaller.is) c.tell_smaller.ensures.code

pub returns-in-AtMost-clause-effect : goal.returns-in-AtMost-clause-effect
returns-in-AtMost-clause-effect c = on_ok c.tell_at_most.result (told_as c.args.comparison AtMost c.args.reg c.args.operand c.in-AtMost.is) c.tell_at_most.ensures.effect

pub returns-in-AtMost-clause-code : goal.returns-in-AtMost-clause-code
returns-in-AtMost-clause-code c =
    on_ok c.tell_at_most.result (code_as c.args.f.now (λ m. tell_code c.args.f.now.cell m c.args.reg c.args.operand) (λ m. cell_of c.args.reg + 9) c.args.comparison AtMost c.in-AtMost.is) c.tell_at_most.ensures.code
