use Rattle.std.proofs.Common.{◌≡◌, ◌*◌, ◌^◌, take}
use Rattle.bf_tape.specs.Piece.{joined, Adds}
use Rattle.bf_turn.specs.Lookup.{IsCounted, counted}
use Rattle.bf_turn.specs.Code.{count_cell, count_code}
use Rattle.bf_turn.proofs.lookup.count.Given as goal

abbrev pub invariant-loop-number : goal.invariant-loop-number
invariant-loop-number l = record {
  code : l.f ≡ joined l.initial.f (count_code l.initial.f.cell l.digits l.numbers l.number-index) (count_cell l.initial.f.cell l.number-index);
  effect : Adds l.initial.f l.f (IsCounted l.digits) (λ input s. counted l.digits (take l.number-index l.numbers) s) (l.number-index * 2 ^ 14) (l.number-index * 8704);
}
