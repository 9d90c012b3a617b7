use Rattle.std.proofs.Common.{◌≡◌, ◌+◌, drop}
use Rattle.c_blocks.specs.Counts.{count_in, is_local}
use Rattle.c_blocks.proofs.counts.local_count.Given as goal

abbrev pub invariant-loop-t : goal.invariant-loop-t
invariant-loop-t l = l.count + count_in is_local (drop l.t-index l.all) ≡ count_in is_local l.all
