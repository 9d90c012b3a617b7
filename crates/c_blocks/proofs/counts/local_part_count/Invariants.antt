use Rattle.std.proofs.Common.{◌≡◌, ◌+◌, drop}
use Rattle.c_blocks.specs.Counts.{count_in, is_local_part}
use Rattle.c_blocks.proofs.counts.local_part_count.Given as goal

abbrev pub invariant-loop-p : goal.invariant-loop-p
invariant-loop-p l = l.count + count_in is_local_part (drop l.p-index l.all) ≡ count_in is_local_part l.all
