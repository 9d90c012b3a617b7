use Rattle.std.proofs.Common.{◌≡◌, ◌-◌, length, drop}
use Rattle.c_linked.specs.Linked.{Tells}
use Rattle.c_linked.proofs.program.table_of.Given as goal

abbrev pub invariant-loop-step : goal.invariant-loop-step
invariant-loop-step l = (length l.table.items ≡ l.count) × Tells l.table.items l.count (drop (length l.compiled - l.step) l.compiled)
