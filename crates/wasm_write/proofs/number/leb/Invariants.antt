use Rattle.std.proofs.Common.{◌≡◌, ◌-◌, ◌++◌}
use Rattle.arrayvec.specs.ArrayVec.{array_vec_len}
use Rattle.wasm_write.specs.Leb.{leb}
use Rattle.wasm_write.proofs.number.leb.Given as goal

abbrev pub invariant-loop : goal.invariant-loop
invariant-loop l = record { written : l.bytes.items ++ leb l.turned l.limit (4 - l.counter) l.rest ≡ leb l.turned l.limit 4 l.n; count : array_vec_len l.bytes ≡ l.counter }
