use Rattle.std.proofs.Common.{◌≡◌, ◌++◌, drop}
use Rattle.wasm_code.specs.Emitted.{ops_code}
use Rattle.wasm_code.proofs.code.put_ops.Given as goal

abbrev pub invariant-loop-op : goal.invariant-loop-op
invariant-loop-op l = l.code.items ++ ops_code l.out (drop l.op-index l.ops) ≡ l.initial.code.items ++ ops_code l.out l.ops
