use Rattle.std.proofs.Common.{◌≡◌, ◌+◌, drop}
use Rattle.c_store.specs.Words.{offset_of, at_offset}
use Rattle.c_store.specs.Shown.{value_of}
use Rattle.c_plain.specs.Rule.{filled, letters_of}
use Rattle.c_parts.proofs.fill.fill_letters.Given as goal

abbrev pub invariant-loop-index : goal.invariant-loop-index
invariant-loop-index l = filled l.literals (letters_of (drop l.index l.bytes)) (at_offset (value_of l.place) (offset_of (value_of l.place) + l.index)) l.store ≡ filled l.fn.literals (letters_of l.fn.bytes) (value_of l.fn.place) l.fn.store
