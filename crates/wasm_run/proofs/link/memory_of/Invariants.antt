use Rattle.std.proofs.Common.{◌≡◌, drop}
use Rattle.std.specs.FinMap as fin
use Rattle.wasm_rule.specs.Start.{least_in, with_segments}
use Rattle.wasm_run.proofs.link.memory_of.Given as goal

abbrev pub invariant-loop-segment : goal.invariant-loop-segment
invariant-loop-segment l = record {
  pages : l.memory.pages ≡ least_in l.m.memory;
  bytes : with_segments l.memory.bytes (drop l.segment-index l.m.segments) ≡ with_segments fin.empty l.m.segments;
}
