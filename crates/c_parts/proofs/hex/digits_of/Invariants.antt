use Rattle.std.proofs.Common.{◌≡◌, ◌-◌, [], map}
use Rattle.std.specs.Prelude.{reverse}
use Rattle.word24.specs.Word.{number_of}
use Rattle.c_store.specs.Shown.{value_of}
use Rattle.c_parts.proofs.Digits.{hex_onto}
use Rattle.c_parts.proofs.hex.digits_of.Given as goal

abbrev pub invariant-loop-index : goal.invariant-loop-index
invariant-loop-index l = hex_onto (64 - l._index) l.rest (reverse (map value_of l.out.items)) ≡ hex_onto 64 (number_of l.fn.word) []
