use Rattle.std.proofs.Common.{◌≡◌, ◌++◌, drop}
use Rattle.std.specs.Prelude.{option_map}
use Rattle.c_types.specs.Operands.{conversions_of}
use Rattle.c_format_terms.specs.Conversions.{conversions_from}
use Rattle.c_format_terms.proofs.conversions.conversions.Given as goal

-- the letters so far, and those of what is left
abbrev pub invariant-loop-byte : goal.invariant-loop-byte
invariant-loop-byte l = option_map (λ ls. l.letters.items ++ ls) (conversions_from l.place (drop l.byte-index l.format)) ≡ conversions_of l.format
