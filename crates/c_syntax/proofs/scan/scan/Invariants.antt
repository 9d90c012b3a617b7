use Rattle.std.proofs.Common.{◌≡◌, ◌+◌, ◌-◌, length, ◌++◌}
use Rattle.c_syntax.specs.Scan.{scan, pieces}
use Rattle.c_syntax.proofs.scan.scan.Given as goal

-- the pieces so far and those that are left are all
abbrev pub invariant-loop : goal.invariant-loop
invariant-loop l = record {
  place : l.pos + length l.rest ≡ length l.text;
  same : l.found.items ++ scan (length l.text - l.counter) l.pos l.gap l.rest ≡ pieces l.text;
}
