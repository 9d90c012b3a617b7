use Rattle.std.proofs.Common.{◌+◌, ◌*◌, length}
use Rattle.c_prep.specs.Views.{macros_of, size_of}
use Rattle.c_prep.proofs.Expanding.{run, Running}
use Rattle.c_prep.proofs.expand.expand.Given as goal

-- what was given and what the frames have is the expansion
abbrev pub invariant-loop-frame : goal.invariant-loop-frame
invariant-loop-frame l = Running (macros_of l.fn.table) (size_of l.fn.table) l.raw.pos l.raw.kind l.table l.frames.items l.fn.out l.out

abbrev pub decreases-loop-frame : goal.decreases-loop-frame
decreases-loop-frame l = 2 * length (run (size_of l.fn.table) (macros_of l.fn.table) l.raw.pos l.frames.items) + length l.frames.items
