use Rattle.std.proofs.Common.{◌≡◌, ℕ, ◌≤◌, true, length}
use Rattle.c_prep.specs.Lines.{text_acts}
use Rattle.c_prep.specs.Views.{macros_of, size_of}
use Rattle.c_prep.proofs.Reading.{Partway}
use Rattle.c_prep.proofs.lines.give_line.Given as goal

-- the tokens so far and those that are left are all
abbrev pub invariant-loop-rest : goal.invariant-loop-rest
invariant-loop-rest l = record {
  macros : macros_of l.table ≡ macros_of l.fn.table;
  small : size_of l.table ≤ size_of l.fn.table;
  acts : (most : ℕ) → size_of l.fn.table ≤ most → Partway l.fn.out l.out (text_acts most true (macros_of l.fn.table) l.line) (text_acts most true (macros_of l.fn.table) l.rest);
}

abbrev pub decreases-loop-rest : goal.decreases-loop-rest
decreases-loop-rest l = length l.rest
