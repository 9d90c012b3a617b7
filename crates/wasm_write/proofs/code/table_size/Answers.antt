use Rattle.std.proofs.Common.{arith}
use Rattle.wasm_write.proofs.Items.{labels_few}
use Rattle.wasm_write.proofs.code.table_size.Goals as goal

pub overflow_cast-count : goal.overflow_cast-count
overflow_cast-count c = omega (arith, labels_few c.args.labels.now c.args.label, c.requires)
