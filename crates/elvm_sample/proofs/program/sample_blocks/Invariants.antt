use Rattle.std.proofs.Common.{◌≡◌, map, vec_len}
use Rattle.std.specs.List.{range_with_len}
use Rattle.elvm_sample.specs.Program.{sample_block}
use Rattle.elvm_sample.proofs.program.sample_blocks.Given as goal

abbrev pub invariant-loop-k : goal.invariant-loop-k
invariant-loop-k l = record {
  blocks : map (λ ops. ops.items) l.blocks.items ≡ map sample_block (range_with_len 0 l.k);
  count : vec_len l.blocks ≡ l.k;
}
