use Rattle.std.proofs.Common.{◌≡◌, ◌++◌, false, replicate}
use Rattle.wasm_bin.specs.declared.module.Instr.TheVariants.{Block}
use Rattle.wasm_code.proofs.body.put_nest.Given as goal

abbrev pub invariant-loop : goal.invariant-loop
invariant-loop l = l.code.items ≡ l.initial.code.items ++ replicate l.counter (Block false)
