use Rattle.std.proofs.Common.{◌≡◌, ◌++◌, ◌∷◌, false, map, drop, length}
use Rattle.c_syntax.specs.View.{stmt_of}
use Rattle.c_helpers.specs.Functions.{pieces, spend_unit}
use Rattle.c_format_terms.proofs.pieces.body.Given as goal

-- the statements so far, and those for what is left
abbrev pub invariant-loop-byte : goal.invariant-loop-byte
invariant-loop-byte l = map stmt_of l.row.items ++ pieces l.behind (drop l.byte-index l.format) (length l.letters.items) ≡ spend_unit ∷ pieces false l.format 0
