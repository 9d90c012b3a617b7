use Rattle.std.proofs.Common.{arith, sym}
use Rattle.std.proofs.lemmas.List.{map_push}
use Rattle.std.proofs.lemmas.List.FromFn.{map-range_with_len_more}
use Rattle.elvm_sample.specs.Program.{sample_block}
use Rattle.elvm_sample.proofs.program.sample_blocks.Goals as goal

pub loop-k-preserved : goal.loop-k-preserved
loop-k-preserved c = record {
  blocks = rw (c.in_ok-push.ensures.items, map_push, c.loop-k.invariant.blocks, c.in_ok-sample_block.ensures) (sym (map-range_with_len_more sample_block 0 c.loop-k.k c.loop-k.k (omega arith)));
  count = omega (arith, c.in_ok-push.ensures.len, c.loop-k.invariant.count);
}
