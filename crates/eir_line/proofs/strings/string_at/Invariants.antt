use Rattle.std.proofs.Common.{◌≡◌, ◌-◌, length}
use Rattle.eir_line.specs.Grammar.{string_at}
use Rattle.eir_line.proofs.Loops.{with_bytes}
use Rattle.eir_line.proofs.strings.string_at.Given as goal

-- the bytes so far and those that are left are all
abbrev pub invariant-loop : goal.invariant-loop
invariant-loop l = with_bytes l.string.items (string_at (length l.bytes - l.counter) l.rest) ≡ string_at (length l.bytes) l.bytes
