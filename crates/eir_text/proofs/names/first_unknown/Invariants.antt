use Rattle.std.proofs.Common.{◌≡◌, ◌+◌, List, drop, ℕ}
use Rattle.eir_text.specs.Refusals.{first_unknown}
use Rattle.eir_text.specs.Reading.{lines_in, Holds}
use Rattle.eir_text.proofs.names.first_unknown.Given as goal

abbrev pub invariant-loop-i : goal.invariant-loop-i
invariant-loop-i l = (all : List (List ℕ)) → Holds l.fn.names all → first_unknown all (l.i + 1) (lines_in (drop l.i l.lines)) ≡ first_unknown all 1 (lines_in l.lines)
