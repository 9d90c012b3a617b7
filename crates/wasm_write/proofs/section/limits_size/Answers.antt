use Rattle.std.proofs.Common.{arith}
use Rattle.wasm_write.proofs.Digits.{number_few}
use Rattle.wasm_write.proofs.section.limits_size.Goals as goal

pub overflow_add-result : goal.overflow_add-result
overflow_add-result c = omega (arith, number_few)

pub overflow_add-result-in-Some : goal.overflow_add-result-in-Some
overflow_add-result-in-Some c = omega (arith, number_few)

pub overflow_add-result-in-Some-2 : goal.overflow_add-result-in-Some-2
overflow_add-result-in-Some-2 c = omega (arith, number_few)
