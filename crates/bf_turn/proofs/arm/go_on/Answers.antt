use Rattle.std.proofs.Common.{ap}
use Rattle.bf_ops.specs.OpsCode.{operation_cell}
use Rattle.bf_turn.proofs.Armed.{goes_on}
use Rattle.bf_turn.proofs.Coded.{on_coded}
use Rattle.bf_turn.proofs.arm.go_on.Goals as goal

pub returns-clause-code : goal.returns-clause-code
returns-clause-code c = on_coded c.args.digits c.args.next c.args.op c.new-arm.ensures c.in_ok-perform.ensures.code c.in_ok-aim.ensures.code c.in_ok-goto.ensures.code

pub returns-clause-effect : goal.returns-clause-effect
returns-clause-effect c =
    goes_on c.args.digits c.args.next (operation_cell c.new-arm.result.cell c.args.op) c.args.op c.requires c.new-arm.ensures c.in_ok-perform.ensures.code c.in_ok-perform.ensures.effect c.in_ok-aim.ensures.effect c.in_ok-goto.ensures.effect (ap (λ p. p.cell) c.in_ok-goto.ensures.code)
