-- Short words for the trees of helper functions; their parts stand at no place of a text.
use Rattle.std.specs.Prelude.{ℕ, true, false, List, Some, None}
use Rattle.c_syntax.specs.Plain.{CExpr, Number, Var, Unary, Binary, Assign, Cast, Call, exprs, CTy, Pointer, One, CDecl, CStmt, Block, Local, Do_expr, Return, stmts}
use Rattle.c_syntax.specs.declared.tree.UnOp.TheVariants as unary
use Rattle.c_syntax.specs.declared.tree.BinOp.{BinOp}
use Rattle.c_syntax.specs.declared.tree.BinOp.TheVariants as binary

abbrev pub number : ℕ → CExpr
number n = Number 0 n false

abbrev pub unsigned_number : ℕ → CExpr
unsigned_number n = Number 0 n true

abbrev pub variable : List ℕ → CExpr
variable name = Var 0 name

abbrev pub minus : CExpr → CExpr
minus e = Unary 0 unary.Minus e

abbrev pub address : CExpr → CExpr
address e = Unary 0 unary.Address e

-- what a pointer to a type points to
abbrev pub pointed : CTy → CExpr → CExpr
pointed t e = Unary 0 unary.Deref (Cast 0 (Pointer t) e)

abbrev pub operation : BinOp → CExpr → CExpr → CExpr
operation op a b = Binary 0 op a b

abbrev pub sum : CExpr → CExpr → CExpr
sum a b = operation binary.Add a b

abbrev pub difference : CExpr → CExpr → CExpr
difference a b = operation binary.Sub a b

abbrev pub less : CExpr → CExpr → CExpr
less a b = operation binary.Lt a b

abbrev pub at_most : CExpr → CExpr → CExpr
at_most a b = operation binary.Le a b

abbrev pub call : List ℕ → List CExpr → CExpr
call f es = Call 0 (variable f) (exprs es)

abbrev pub assigned : CExpr → CExpr → CExpr
assigned a b = Assign 0 None a b

abbrev pub block : List CStmt → CStmt
block ss = Block (stmts ss)

-- a name becomes a value
abbrev pub set : List ℕ → CExpr → CStmt
set name e = Do_expr (assigned (variable name) e)

abbrev pub declaration : CTy → List ℕ → CDecl
declaration t name = record { name = name; pos = 0; ty = t; first = None }

-- a local without a first value
abbrev pub fresh : CTy → List ℕ → CStmt
fresh t name = Local (declaration t name)

-- a local with a first value
abbrev pub local : CTy → List ℕ → CExpr → CStmt
local t name e = Local (record (declaration t name) { first = Some (One e) })

abbrev pub give_back : CExpr → CStmt
give_back e = Return 0 (Some e)
