-- First values at file scope that stay as they are.
use Rattle.std.specs.Prelude.{Bool, true, false}
use Rattle.c_syntax.specs.Plain as plain
use Rattle.c_syntax.specs.Plain.{CExpr}
use Rattle.c_syntax.specs.declared.tree.UnOp.TheVariants as unary

-- a string, `NULL`, a name and an address stay; the others are constant expressions
abbrev pub stays : CExpr → Bool
stays (plain.Str at text) = true
stays (plain.Null at) = true
stays (plain.Var at name) = true
stays (plain.Unary at unary.Address a) = true
stays _ = false
