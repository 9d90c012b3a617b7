-- First values that may be missing.
use Rattle.std.specs.Prelude.{ℕ, List, [], Option, Some, None}
use Rattle.c_syntax.specs.Plain.{CValue}
use Rattle.c_types.specs.Types.{CType}
use Rattle.c_eval.specs.Environment.{Environment}
use Rattle.c_code.specs.Code.{Instruction, Site, first_code}

abbrev pub maybe_first_code : Site → Environment → CType → ℕ → Option CValue → List Instruction
maybe_first_code site here t slot None = []
maybe_first_code site here t slot (Some v) = first_code v t slot 0 site here
