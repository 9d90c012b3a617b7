-- Judged types and lists of types, as the definitions have them.
use Rattle.std.specs.Prelude.{ℕ, Result}
use Rattle.c_types.specs.declared.fault.TypeFault.{TypeFault}
use Rattle.c_types.specs.Types.{CTypes}
use Rattle.c_types.specs.Refusals.{Judged}
use Rattle.c_types.specs.Table.{Table}
use Rattle.c_operands.specs.Seen.{IsJudged}
use Rattle.c_operands.specs.Arguments.{HasList}

-- the code's judgement is that of a list of types
abbrev pub IsSomeList : Table → Result ℕ TypeFault → Type 0
IsSomeList table j = (p : Judged CTypes) × IsJudged (HasList table) j p
