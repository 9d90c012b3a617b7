use Rattle.std.proofs.Common.{◌++◌, ap}
use Rattle.mach_core.proofs.Lists.{drop_none}
use Rattle.eir_core.specs.declared.ops.Op.{Op}
use Rattle.std.proofs.Common.{List}
use Rattle.wasm_code.specs.Emitted.{ops_code}
use Rattle.wasm_code.proofs.Pieces.{ops_more, ops_all}
use Rattle.wasm_code.proofs.code.put_ops.Goals as goal

pub loop-op-init : goal.loop-op-init
loop-op-init c = ap (λ (left : List Op). c.args.code.now.items ++ ops_code c.args.out left) (drop_none c.args.ops.now)

pub loop-op-preserved : goal.loop-op-preserved
loop-op-preserved c =
    ops_more c.args.out c.args.ops.now c.loop-op.op-index c.op-item.result c.loop-op.code.items c.put_op.new.code.items (c.args.code.now.items ++ ops_code c.args.out c.args.ops.now)
    c.loop-op-test.true c.op-item.is c.in_ok-put_op.ensures c.loop-op.invariant

pub returns : goal.returns
returns c = ops_all c.args.out c.args.ops.now c.loop-op.op-index c.loop-op.code.items (c.args.code.now.items ++ ops_code c.args.out c.args.ops.now) c.loop-op-test.false c.loop-op.invariant
