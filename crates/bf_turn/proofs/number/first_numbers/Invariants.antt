use Rattle.std.proofs.Common.{◌≡◌, ◌+◌, take, length, sum_by}
use Rattle.bf_turn.specs.Number.{first_numbers}
use Rattle.bf_turn.proofs.number.first_numbers.Given as goal

abbrev pub invariant-loop-k : goal.invariant-loop-k
invariant-loop-k l = record { are : l.numbers.items ≡ first_numbers 1 (take l.k l.p.blocks); next : l.number ≡ 1 + sum_by length (take l.k l.p.blocks) }
