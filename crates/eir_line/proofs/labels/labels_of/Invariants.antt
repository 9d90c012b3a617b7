use Rattle.std.proofs.Common.{◌≡◌, ◌-◌, length, map}
use Rattle.eir_line.specs.Grammar.{labels_at}
use Rattle.eir_line.proofs.Loops.{with_labels}
use Rattle.eir_line.proofs.labels.labels_of.Given as goal

-- the labels so far and those that are left are all
abbrev pub invariant-loop : goal.invariant-loop
invariant-loop l = with_labels (map (λ name. name.now) l.labels.items) (labels_at (length l.line - l.counter) l.rest) ≡ labels_at (length l.line) l.line
