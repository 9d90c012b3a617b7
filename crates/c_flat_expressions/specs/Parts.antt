-- The parts of which the code of expressions is made.
use Rattle.std.specs.Prelude.{ℕ, Bool, true, false, List, [], ◌∷◌, ◌++◌, Option, Some, Ok, Err, if◌then◌else◌}
use Rattle.c_syntax.specs.Plain.{CExpr, CExprs}
use Rattle.c_syntax.specs.declared.tree.UnOp.{UnOp}
use Rattle.c_syntax.specs.declared.tree.UnOp.TheVariants as unary
use Rattle.c_syntax.specs.declared.tree.BinOp.{BinOp}
use Rattle.c_types.specs.Types.{CTypes, NoType}
use Rattle.c_types.specs.Refusals.{Judged}
use Rattle.c_types.specs.Operands as plain
use Rattle.c_types.specs.Scope.{Scope}
use Rattle.c_types.specs.Expressions.{names_function}
use Rattle.c_eval.specs.Environment.{Environment, past, value_type_in, Callee, Direct, Known, Format, Through, function_parameters, parameters_of}
use Rattle.c_scopes.specs.declared.entity.Entity.{Entity}
use Rattle.c_scopes.specs.declared.entity.Entity.TheVariants.{Printf}
use Rattle.c_eval.specs.LiteralsIn.{literals_in, literals_in_all, literals_behind}
use Rattle.c_code.specs.Code.{Instruction, Use, Operate, Pay, Call, CallThrough, Site, known_code, print_code, value_code, place_code, values_code, values_code_behind}

-- the code of an operator's operand: of the place that is addressed, unless it is a function's name, or else of a value
abbrev pub operand_code : UnOp → CExpr → Site → Environment → List Instruction
operand_code unary.Address a site here = if names_function here.scope a then value_code a site here ++ Use ∷ [] else place_code a site here
operand_code op a site here = value_code a site here ++ Use ∷ []

-- the code of an operator and of the values of both its sides
abbrev pub operation_code : BinOp → CExpr → CExpr → Site → Environment → List Instruction
operation_code op a b site here =
    (value_code a site here ++ Use ∷ []) ++ ((value_code b site (past a here) ++ Use ∷ []) ++ Operate here.scope.tags op (value_type_in here.scope a) (value_type_in here.scope b) ∷ [])

-- ---- calls

-- a name stands for `printf`
abbrev pub is_format : Option Entity → Bool
is_format (Some Printf) = true
is_format entity = false

-- the parameters of what is called
abbrev pub parameters_in : Callee → CTypes
parameters_in (Direct name params) = params
parameters_in (Known name params) = params
parameters_in Format = NoType
parameters_in (Through params) = params

-- as the type of what is called tells them
abbrev pub parameters_by : plain.Callee → CTypes
parameters_by (plain.Direct t defined) = function_parameters t
parameters_by plain.Format = NoType
parameters_by (plain.Through t) = parameters_of t

abbrev pub parameters_told : Judged plain.Callee → CTypes
parameters_told (Ok callee) = parameters_by callee
parameters_told (Err fault) = NoType

-- the code of the pointer that is called, if one is
abbrev pub pointer_code : Callee → List Instruction → List Instruction
pointer_code (Through params) pointer = pointer
pointer_code callee pointer = []

-- what a call does behind its arguments
abbrev pub ending_code : Callee → Option (List ℕ) → ℕ → ℕ → List Instruction
ending_code (Direct name params) format n m = Call name params n ∷ []
ending_code (Known name params) format n m = Pay ∷ known_code name params n
ending_code Format format n m = Pay ∷ print_code format m
ending_code (Through params) format n m = CallThrough params n ∷ []

-- the code of the arguments, which for `printf` is that of those behind the first
abbrev pub given_code : (printed : Bool) → CExprs → Site → Environment → List Instruction
given_code printed es site here = if printed then values_code_behind es site here else values_code es site here

abbrev pub given_literals : (printed : Bool) → Scope → CExprs → List (List ℕ)
given_literals printed s es = if printed then literals_behind s es else literals_in_all s es

-- the code of an argument, which may be left out
abbrev pub argument_code : (skips : Bool) → CExpr → Site → Environment → List Instruction
argument_code skips e site here = if skips then [] else value_code e site here ++ Use ∷ []

abbrev pub argument_literals : (skips : Bool) → Scope → CExpr → List (List ℕ)
argument_literals skips s e = if skips then [] else literals_in s e
