-- Expressions that are names and strings, and lists of types.
use Rattle.std.specs.Prelude.{ℕ, List, map, Option, Some, None}
use Rattle.c_syntax.specs.Plain as plain
use Rattle.c_syntax.specs.Plain.{CExpr, CTys, tys}
use Rattle.c_syntax.specs.View.{ty_of}
use Rattle.c_syntax.specs.declared.tree.Tys.{Tys}

-- the name that an expression is
abbrev pub name_in : CExpr → Option (List ℕ)
name_in (plain.Var pos name) = Some name
name_in _ = None

-- the string that it is
abbrev pub string_in : CExpr → Option (List ℕ)
string_in (plain.Str pos text) = Some text
string_in _ = None

-- the types of a list of the code
abbrev pub tys_of : Tys → CTys
tys_of all = tys (map ty_of all.items.items)
