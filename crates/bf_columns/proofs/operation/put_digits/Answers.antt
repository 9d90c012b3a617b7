use Rattle.std.proofs.Common.{◌++◌, arith}
use Rattle.bf_columns.specs.Number.{digits_code}
use Rattle.bf_columns.proofs.NotedSteps.{digits_step}
use Rattle.bf_columns.proofs.operation.put_digits.Goals as goal

pub loop-preserved : goal.loop-preserved
loop-preserved c =
    digits_step c.loop.rest c.args.digits c.loop.counter c.loop.code.items c.put_many.new.code.items c.put_many-in-loop.new.code.items (c.args.code.now.items ++ digits_code c.args.number c.args.digits)
    (let test = c.loop-test.true in omega (arith, test)) c.in_ok-put_many.ensures c.in_ok-put_many-2.ensures c.loop.invariant
