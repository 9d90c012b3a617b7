-- What calls are made of.
use Rattle.std.specs.Prelude.{◌≡◌, ℕ, Bool, List, [], ◌∷◌, ◌++◌, Option, Some, None}
use Rattle.c_types.specs.Types.{CTypes}
use Rattle.c_code.specs.Code as code
use Rattle.c_code.specs.Code.{pieces}
use Rattle.c_plain.specs.declared.instruction.Arguments.{Arguments}
use Rattle.c_plain.specs.Program.{Program}
use Rattle.c_resolved.specs.Means.{AreArguments}
use Rattle.c_emitted.specs.declared.emitter.Emitter.{Emitter}
use Rattle.c_emitted.specs.Tables.{Tables, tables_in, Extends}
use Rattle.c_emitted.specs.Emits.{Emits}
use Rattle.c_pieces.specs.declared.formats.Left.{Left}

-- so many arguments convert to the types of a list, in each program that has these tables
pub record AreTold (t : Tables) (params : CTypes) (count : ℕ) (a : Arguments) : Type 0 where
  pub are : (names : List (List ℕ)) (p : Program) → Extends t (tables_in names p) → AreArguments p params count a

-- a byte of a format is passed: the code of the format is what was emitted, and then that of the bytes behind it with what is left, if any
abbrev pub Passes : Emitter → Emitter → (percent : Bool) → (byte left : ℕ) → Option Left → Type 0
Passes a b percent byte left (Some l) = (is : List code.Instruction) × Emits a b is [] × ((rest : List ℕ) → pieces percent (byte ∷ rest) left ≡ is ++ pieces l.percent rest l.count)
Passes a b percent byte left None = (rest : List ℕ) → Emits a b (pieces percent (byte ∷ rest) left) []
