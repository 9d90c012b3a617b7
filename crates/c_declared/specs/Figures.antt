-- How expressions stand as first values.
use Rattle.std.specs.Prelude.{Bool, true, false, length}
use Rattle.c_syntax.specs.Plain as plain
use Rattle.c_syntax.specs.Plain.{CExpr}
use Rattle.c_syntax.specs.declared.tree.UnOp.TheVariants as unary
use Rattle.c_declared.specs.declared.figure.Figure.{Figure}
use Rattle.c_declared.specs.declared.figure.Figure.TheVariants.{Text, Null, AddressOfName, Name, Other}

abbrev pub is_name : CExpr → Bool
is_name (plain.Var at name) = true
is_name _ = false

abbrev pub figure_of : CExpr → Figure
figure_of (plain.Str at text) = Text (length text)
figure_of (plain.Null at) = Null
figure_of (plain.Var at name) = Name
figure_of (plain.Unary at unary.Address (plain.Var pos name)) = AddressOfName
figure_of _ = Other
