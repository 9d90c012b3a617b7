-- Strings that are first values of arrays.
use Rattle.std.specs.Prelude.{ℕ, List, Option, Some, None, if◌then◌else◌}
use Rattle.c_syntax.specs.Plain as plain
use Rattle.c_syntax.specs.Plain.{CExpr}
use Rattle.c_types.specs.Types.{CType, Array, is_character}
use Rattle.c_types.specs.Declarations.{takes_string}
use Rattle.c_eval.specs.Eval.{array_text}

abbrev pub string_in : CExpr → Option (List ℕ)
string_in (plain.Str at text) = Some text
string_in _ = None

-- how many characters an array holds
abbrev pub room_of : CType → Option ℕ
room_of (Array t n) = if is_character t then Some n else None
room_of _ = None

-- what an object of a type takes as a string
abbrev pub spelled : CType → CExpr → Option (List ℕ)
spelled t e = if takes_string t e then Some (array_text t e) else None
