use Rattle.std.proofs.Common.{map, take}
use Rattle.ws_lang.specs.OpInstruction.{instruction_of}
use Rattle.ws_lang.specs.Labels.{HasMarks}
use Rattle.ws_lang.proofs.labels.table_of.Given as goal

abbrev pub invariant-loop-place : goal.invariant-loop-place
invariant-loop-place l = HasMarks l.table.entries (map instruction_of (take l.place l.ops))
