use Rattle.std.proofs.Common.{map, take}
use Rattle.c_eval.specs.State as run
use Rattle.c_static.specs.Cells.{AddsShown}
use Rattle.c_static.proofs.cells.add_bytes.Given as goal

abbrev pub invariant-loop-byte : goal.invariant-loop-byte
invariant-loop-byte l = AddsShown l.fn.cells.items l.cells.items (map (λ c. run.Holds (run.Word c)) (take l.byte-index l.bytes))
