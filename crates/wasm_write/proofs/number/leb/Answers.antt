use Rattle.std.proofs.Common.{arith}
use Rattle.wasm_write.specs.Leb.{leb}
use Rattle.wasm_write.proofs.Digits.{written_more}
use Rattle.wasm_write.proofs.number.leb.Goals as goal

pub loop-preserved : goal.loop-preserved
loop-preserved c = record {
  written = rw (c.push-in-loop.ensures.items, c.low_bits-in-loop.ensures.value) (written_more c.args.turned c.args.limit c.loop.counter c.loop.rest c.loop.bytes.items (leb c.args.turned c.args.limit 4 c.args.n) c.loop-test.true c.if-rest-limit.false c.loop.invariant.written);
  count = omega (arith, c.push-in-loop.ensures.len);
}
