use Rattle.std.proofs.Common.{◌≡◌, List, drop, false}
use Rattle.c_types.specs.Types.{Pointer, Char}
use Rattle.c_types.specs.Operands as plain
use Rattle.c_types.specs.Table.{HasType}
use Rattle.c_operands.specs.Arguments.{AreArguments, printed}
use Rattle.c_operands.proofs.formats.agree.Given as goal

abbrev pub invariant-loop-byte : goal.invariant-loop-byte
invariant-loop-byte l = (xs : List plain.Operand) → HasType l.types l.text (Pointer Char) → AreArguments l.types l.arguments xs
    → printed false l.format (drop 1 xs) ≡ printed l.place.behind (drop l.byte-index l.format) (drop l.place.used xs)
