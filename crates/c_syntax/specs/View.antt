-- The plain tree of a tree.
use Rattle.std.specs.Prelude.{ℕ, List, map, Option, Some, None}
use Rattle.c_syntax.specs.Plain as plain
use Rattle.c_syntax.specs.Plain.{CExpr, CExprs, CTy, CTys, CValue, CValues, CDecl, CStmt, CStmts, CPart, CParts, CTag, CItem, CUnit}
use Rattle.c_syntax.specs.declared.tree.Expr.{Expr}
use Rattle.c_syntax.specs.declared.tree.Exprs.{Exprs, Exprs', Row_of-Expr, end_of-Expr, more_of-Expr}
use Rattle.c_syntax.specs.declared.tree.Form.{Form, Number, Str, Null, Name, Unary', Step', Binary', Assign', Cond', Comma', Cast', SizeTy', SizeOf', Index', Call', Member', Arrow'}
use Rattle.c_syntax.specs.declared.tree.Ty.{Ty, Void, Int, Unsigned, Char, UChar, Struct, Pointer', Array', Func', Held-Ty-Array-1, None', Some'}
use Rattle.c_syntax.specs.declared.tree.Tys.{Row_of-Ty, end_of-Ty, more_of-Ty}
use Rattle.c_syntax.specs.declared.tree.Value.{Value, One, Many'}
use Rattle.c_syntax.specs.declared.tree.Values.{Row_of-Value, end_of-Value, more_of-Value}
use Rattle.c_syntax.specs.declared.tree.Decl.{Decl}
use Rattle.c_syntax.specs.declared.tree.Stmt.{Stmt, Block', Local, Expr as ExprStmt, Empty, If', While', Do', For', Return, Break, Continue, Switch', Held-Stmt-If-2, None' as NoElse', Some' as Else'}
use Rattle.c_syntax.specs.declared.tree.Stmts.{Row_of-Stmt, end_of-Stmt, more_of-Stmt}
use Rattle.c_syntax.specs.declared.tree.Part.{Part, Label, Item}
use Rattle.c_syntax.specs.declared.tree.Tag.{Tag}
use Rattle.c_syntax.specs.declared.tree.Item.{Item as TheItem}
use Rattle.c_syntax.specs.declared.tree.Item.TheVariants.{Struct as StructItem, Object, Function}
use Rattle.c_syntax.specs.declared.tree.Unit.{Unit as TheUnit}
use Rattle.c_syntax.specs.declared.tree.Parts.{Row_of-Part, end_of-Part, more_of-Part}

abbrev mutual
  pub form_of : Form → ℕ → CExpr
  form_of (Number v u) pos = plain.Number pos v u
  form_of (Str t) pos = plain.Str pos t
  form_of Null pos = plain.Null pos
  form_of (Name t) pos = plain.Var pos t
  form_of (Unary' op p pa a) pos = plain.Unary pos op (form_of a pa)
  form_of (Step' op p pa a) pos = plain.Step pos op (form_of a pa)
  form_of (Binary' op p pa a q pb b) pos = plain.Binary pos op (form_of a pa) (form_of b pb)
  form_of (Assign' op p pa a q pb b) pos = plain.Assign pos op (form_of a pa) (form_of b pb)
  form_of (Cond' p pa a q pb b r pc c) pos = plain.Cond pos (form_of a pa) (form_of b pb) (form_of c pc)
  form_of (Comma' p pa a q pb b) pos = plain.Comma pos (form_of a pa) (form_of b pb)
  form_of (Cast' p t q pa a) pos = plain.Cast pos (ty_of t) (form_of a pa)
  form_of (SizeTy' p t) pos = plain.SizeTy pos (ty_of t)
  form_of (SizeOf' p pa a) pos = plain.SizeOf pos (form_of a pa)
  form_of (Index' p pa a q pb b) pos = plain.Index pos (form_of a pa) (form_of b pb)
  form_of (Call' p pa a args) pos = plain.Call pos (form_of a pa) (exprs_of args)
  form_of (Member' p pa a m) pos = plain.Member pos (form_of a pa) m
  form_of (Arrow' p pa a m) pos = plain.Arrow pos (form_of a pa) m

  pub exprs_of : Exprs → CExprs
  exprs_of (Exprs' shape row) = exprs_in row

  pub exprs_in : {m : _} → Row_of-Expr m → CExprs
  exprs_in end_of-Expr = plain.NoExpr
  exprs_in (more_of-Expr pe e rest) = plain.MoreExpr (form_of e pe) (exprs_in rest)

  pub ty_of : Ty → CTy
  ty_of Void = plain.Void
  ty_of Int = plain.Int
  ty_of Unsigned = plain.Unsigned
  ty_of Char = plain.Char
  ty_of UChar = plain.UChar
  ty_of (Struct t) = plain.Struct t
  ty_of (Pointer' p t) = plain.Pointer (ty_of t)
  ty_of (Array' p t n) = array_of n (ty_of t)
  ty_of (Func' p t shape row) = plain.Func (ty_of t) (tys_in row)

  pub array_of : Held-Ty-Array-1 → CTy → CTy
  array_of None' t = plain.Array t
  array_of (Some' p pe e) t = plain.ArrayOf t (form_of e pe)

  pub tys_in : {m : _} → Row_of-Ty m → CTys
  tys_in end_of-Ty = plain.NoTy
  tys_in (more_of-Ty t rest) = plain.MoreTy (ty_of t) (tys_in rest)

abbrev pub expr_of : Expr → CExpr
expr_of e = form_of e.form e.pos

abbrev pub maybe : Option Expr → Option CExpr
maybe None = None
maybe (Some e) = Some (expr_of e)

abbrev mutual
  pub value_of : Value → CValue
  value_of (One e) = plain.One (expr_of e)
  value_of (Many' shape row) = plain.Many (values_in row)

  pub values_in : {m : _} → Row_of-Value m → CValues
  values_in end_of-Value = plain.NoValue
  values_in (more_of-Value v rest) = plain.MoreValue (value_of v) (values_in rest)

abbrev pub maybe_value : Option Value → Option CValue
maybe_value None = None
maybe_value (Some v) = Some (value_of v)

abbrev pub decl_of : Decl → CDecl
decl_of d = record { name = d.name; pos = d.pos; ty = ty_of d.ty; first = maybe_value d.first }

abbrev mutual
  pub stmt_of : Stmt → CStmt
  stmt_of (Block' shape row) = plain.Block (stmts_in row)
  stmt_of (Local d) = plain.Local (decl_of d)
  stmt_of (ExprStmt e) = plain.Do_expr (expr_of e)
  stmt_of Empty = plain.Empty
  stmt_of (If' e p s other) = else_of other (expr_of e) (stmt_of s)
  stmt_of (While' e p s) = plain.While (expr_of e) (stmt_of s)
  stmt_of (Do' p s e) = plain.Do (stmt_of s) (expr_of e)
  stmt_of (For' p first test step q s) = plain.For (stmt_of first) (maybe test) (maybe step) (stmt_of s)
  stmt_of (Return pos e) = plain.Return pos (maybe e)
  stmt_of (Break pos) = plain.Break pos
  stmt_of (Continue pos) = plain.Continue pos
  stmt_of (Switch' e shape row) = plain.Switch (expr_of e) (parts_in row)

  pub else_of : Held-Stmt-If-2 → CExpr → CStmt → CStmt
  else_of NoElse' e s = plain.If e s
  else_of (Else' p t) e s = plain.IfElse e s (stmt_of t)

  pub stmts_in : {m : _} → Row_of-Stmt m → CStmts
  stmts_in end_of-Stmt = plain.NoStmt
  stmts_in (more_of-Stmt s rest) = plain.MoreStmt (stmt_of s) (stmts_in rest)

  pub part_of : Part → CPart
  part_of (Label pos e) = plain.Label pos (maybe e)
  part_of (Item s) = plain.Item (stmt_of s)

  pub parts_in : {m : _} → Row_of-Part m → CParts
  parts_in end_of-Part = plain.NoPart
  parts_in (more_of-Part p rest) = plain.MorePart (part_of p) (parts_in rest)

abbrev pub maybe_stmt : Option Stmt → Option CStmt
maybe_stmt None = None
maybe_stmt (Some s) = Some (stmt_of s)

abbrev pub decls_of : List Decl → List CDecl
decls_of ds = map decl_of ds

abbrev pub tag_of : Tag → CTag
tag_of t = record { name = t.name; pos = t.pos; members = decls_of t.members.items.items }

abbrev pub item_of : TheItem → CItem
item_of (StructItem t) = plain.StructItem (tag_of t)
item_of (Object d) = plain.Object (decl_of d)
item_of (Function name pos result params body) = plain.Function name pos (ty_of result) (decls_of params.items.items) (maybe_stmt body)

abbrev pub unit_of : TheUnit → CUnit
unit_of u = record { items = map item_of u.items.items.items; end = u.end }
