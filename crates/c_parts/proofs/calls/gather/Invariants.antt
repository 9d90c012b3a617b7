use Rattle.std.proofs.Common.{◌≡◌, map, take}
use Rattle.c_store.specs.Shown.{value_of}
use Rattle.c_plain.specs.Calls.{all_converted}
use Rattle.c_parts.proofs.calls.gather.Given as goal

abbrev pub invariant-loop-index : goal.invariant-loop-index
invariant-loop-index l = map value_of l.out.items ≡ all_converted l.kinds (map value_of (take l.index l.values))
