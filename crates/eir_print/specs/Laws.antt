-- What printed texts are to a reader.
use Rattle.std.specs.Prelude.{◌≤◌, ◌^◌, length}
use Rattle.eir_core.specs.Eir.{Eir, IsEir}
use Rattle.eir_text.specs.Spells.{Spells}
use Rattle.eir_print.specs.Printed.{printed}

-- the printed text of each program spells this program
abbrev pub PrintedTextsSpell : Type 0
PrintedTextsSpell = (p : Eir) → IsEir p → Spells (printed p) p

-- the printed text of a program is not too long for a reader
abbrev pub PrintedTextsAreShort : Type 0
PrintedTextsAreShort = (p : Eir) → IsEir p → length (printed p) ≤ 2 ^ 28
