use Rattle.std.proofs.Common.{arith}
use Rattle.wasm_write.proofs.Digits.{number_few}
use Rattle.wasm_write.proofs.code.locals_size.Goals as goal

pub overflow_add-result : goal.overflow_add-result
overflow_add-result c = omega (arith, number_few)
