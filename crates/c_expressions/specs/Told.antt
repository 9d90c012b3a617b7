-- Arguments that are judged one after the other.
use Rattle.std.specs.Prelude.{List, ◌++◌, Option, Some, None, Result, Ok, Err, Vec}
use Rattle.std.specs.declared.alloc.Global.{Global}
use Rattle.std.specs.Result.{result_err}
use Rattle.c_types.specs.declared.fault.TypeFault.{TypeFault}
use Rattle.c_types.specs.Refusals.{Judged, least_of}
use Rattle.c_types.specs.Operands as plain
use Rattle.c_types.specs.Table.{Table}
use Rattle.c_operands.specs.Seen.{IsJudged}
use Rattle.c_operands.specs.declared.arguments.Argument.{Argument}
use Rattle.c_operands.specs.declared.arguments.Callee.{Callee}
use Rattle.c_operands.specs.Arguments.{AreArguments, IsCallee}

-- the judgement of arguments, of which the first ones are these or are refused
abbrev pub behind : Option TypeFault → List plain.Operand → Judged (List plain.Operand) → Judged (List plain.Operand)
behind None xs (Ok ys) = Ok (xs ++ ys)
behind None xs (Err e) = Err e
behind (Some d) xs others = Err (least_of d (result_err others))

-- arguments of the code are those of the definitions, if none is refused
abbrev pub AreSoFar : Table → Option TypeFault → List Argument → List plain.Operand → Type 0
AreSoFar table None arguments xs = AreArguments table arguments xs
AreSoFar table (Some e) arguments xs = Unit {0}

-- the arguments in a list of the code are those of the definitions
abbrev pub AreGiven : Table → Vec Argument Global → List plain.Operand → Type 0
AreGiven table given xs = AreArguments table given.items xs

-- the code's judgement is that of what is called
abbrev pub IsSomeCallee : Table → Result Callee TypeFault → Type 0
IsSomeCallee table j = (p : Judged plain.Callee) × IsJudged (IsCallee table) j p
