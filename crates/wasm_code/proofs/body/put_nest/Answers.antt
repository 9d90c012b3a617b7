use Rattle.std.proofs.Common.{append-nil, sym, false}
use Rattle.wasm_bin.specs.declared.module.Instr.TheVariants.{Block}
use Rattle.wasm_code.proofs.Pieces.{nest_more}
use Rattle.wasm_code.proofs.body.put_nest.Goals as goal

pub loop-init : goal.loop-init
loop-init c = sym (append-nil c.args.code.now.items)

pub loop-preserved : goal.loop-preserved
loop-preserved c = nest_more c.args.code.now.items c.loop.code.items c.put.new.code.items (Block false) c.loop.counter c.in_ok-put.ensures c.loop.invariant
