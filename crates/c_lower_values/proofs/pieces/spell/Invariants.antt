use Rattle.std.proofs.Common.{drop}
use Rattle.c_lower_values.proofs.SpellLemmas.{Spelling}
use Rattle.c_lower_values.proofs.pieces.spell.Given as goal

abbrev pub invariant-loop-byte : goal.invariant-loop-byte
invariant-loop-byte l = Spelling l.fn.out l.out l.at l.place l.bytes (drop l.byte-index l.bytes)
