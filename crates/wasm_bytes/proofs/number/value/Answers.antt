use Rattle.std.proofs.Common.{arith, get_or, refl}
use Rattle.wasm_bytes.proofs.Leb.{value_more, span_more, value_below, span_bound}
use Rattle.wasm_bytes.proofs.number.value.Goals as goal

pub loop-byte-preserved : goal.loop-byte-preserved
loop-byte-preserved c =
    let byte = get_or c.args.bytes.now c.loop-byte.byte-index 0 in
    record {
      made = rw c.from.ensures (value_more c.args.bytes.now c.loop-byte.byte-index c.loop-byte.value c.loop-byte.span byte c.loop-byte-test.true refl c.loop-byte.invariant.made c.loop-byte.invariant.all);
      all = span_more c.loop-byte.span c.loop-byte.byte-index c.loop-byte.invariant.all;
      below = rw c.from.ensures (value_below c.loop-byte.value c.loop-byte.span byte c.loop-byte.invariant.below);
    }

pub returns-clause-bound : goal.returns-clause-bound
returns-clause-bound c = span_bound c.loop-byte.span c.loop-byte.byte-index _ c.loop-byte.invariant.all (omega arith) c.requires
