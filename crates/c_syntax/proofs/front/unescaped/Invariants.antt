use Rattle.std.proofs.Common.{◌≡◌, ◌-◌, ◌≤◌, length}
use Rattle.c_syntax.specs.Front.{unescaped}
use Rattle.c_syntax.proofs.Loops.{with_bytes}
use Rattle.c_syntax.proofs.front.unescaped.Given as goal

-- the bytes so far and those that are left are all
abbrev pub invariant-loop : goal.invariant-loop
invariant-loop l = record {
  within : length l.rest ≤ length l.bytes;
  same : with_bytes l.text.items (unescaped (length l.bytes - l.counter) (length l.bytes - length l.rest) l.rest) ≡ unescaped (length l.bytes) 0 l.bytes;
}
