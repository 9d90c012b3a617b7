-- The string literals of the functions of a text in its program.
use Rattle.std.specs.Prelude.{◌≡◌, ℕ, List, Some}
use Rattle.c_syntax.specs.Plain.{CUnit}
use Rattle.c_eval.specs.LiteralsIn.{stmt_literals}
use Rattle.c_eval.specs.Text.{Definition, text_of, function_named}
use Rattle.c_landing.specs.Few.{LiteralsAre}
use Rattle.c_laid.specs.Data.{ground_of}

-- under a function's name the program of a text has the literals of its body, from the first one on
abbrev pub FunctionsAreLettered : Type 0
FunctionsAreLettered = (u : CUnit) (name : List ℕ) (f : Definition) → function_named (text_of u) name ≡ Some f → LiteralsAre (ground_of u) (Some name) (stmt_literals f.scope f.body) 0
