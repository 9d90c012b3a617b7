-- The names that stand in trees, in the order of the text.
use Rattle.std.specs.Prelude.{ℕ, List, [], ◌∷◌, ◌++◌, Option, Some, None}
use Rattle.c_syntax.specs.Plain as plain
use Rattle.c_syntax.specs.Plain.{CExpr, CExprs, CValue, CValues, CStmt, CStmts, CPart, CParts}

abbrev mutual
  -- of an expression; types and `sizeof` aren't evaluated
  pub names_in : CExpr → List (List ℕ)
  names_in (plain.Number at n unsigned) = []
  names_in (plain.Str at text) = []
  names_in (plain.Null at) = []
  names_in (plain.Var at name) = name ∷ []
  names_in (plain.Unary at op a) = names_in a
  names_in (plain.Step at op a) = names_in a
  names_in (plain.Binary at op a b) = names_in a ++ names_in b
  names_in (plain.Assign at op a b) = names_in a ++ names_in b
  names_in (plain.Cond at a b c) = names_in a ++ (names_in b ++ names_in c)
  names_in (plain.Comma at a b) = names_in a ++ names_in b
  names_in (plain.Cast at t a) = names_in a
  names_in (plain.SizeTy at t) = []
  names_in (plain.SizeOf at a) = []
  names_in (plain.Index at a b) = names_in a ++ names_in b
  names_in (plain.Call at f es) = names_in f ++ names_in_all es
  names_in (plain.Member at a m) = names_in a
  names_in (plain.Arrow at a m) = names_in a

  pub names_in_all : CExprs → List (List ℕ)
  names_in_all plain.NoExpr = []
  names_in_all (plain.MoreExpr e es) = names_in e ++ names_in_all es

abbrev pub maybe_names : Option CExpr → List (List ℕ)
maybe_names None = []
maybe_names (Some e) = names_in e

abbrev mutual
  -- of a first value
  pub value_names : CValue → List (List ℕ)
  value_names (plain.One e) = names_in e
  value_names (plain.Many vs) = values_names vs

  pub values_names : CValues → List (List ℕ)
  values_names plain.NoValue = []
  values_names (plain.MoreValue v vs) = value_names v ++ values_names vs

abbrev pub first_names : Option CValue → List (List ℕ)
first_names None = []
first_names (Some v) = value_names v

abbrev mutual
  -- of a statement; what a label has isn't evaluated
  pub stmt_names : CStmt → List (List ℕ)
  stmt_names (plain.Block ss) = stmts_names ss
  stmt_names (plain.Local d) = first_names d.first
  stmt_names (plain.Do_expr e) = names_in e
  stmt_names plain.Empty = []
  stmt_names (plain.If e t) = names_in e ++ stmt_names t
  stmt_names (plain.IfElse e t u) = names_in e ++ (stmt_names t ++ stmt_names u)
  stmt_names (plain.While e t) = names_in e ++ stmt_names t
  stmt_names (plain.Do t e) = stmt_names t ++ names_in e
  stmt_names (plain.For first test step t) = stmt_names first ++ (maybe_names test ++ (maybe_names step ++ stmt_names t))
  stmt_names (plain.Return at e) = maybe_names e
  stmt_names (plain.Break at) = []
  stmt_names (plain.Continue at) = []
  stmt_names (plain.Switch e ps) = names_in e ++ parts_names ps

  pub stmts_names : CStmts → List (List ℕ)
  stmts_names plain.NoStmt = []
  stmts_names (plain.MoreStmt t ts) = stmt_names t ++ stmts_names ts

  pub part_names : CPart → List (List ℕ)
  part_names (plain.Label at e) = []
  part_names (plain.Item t) = stmt_names t

  pub parts_names : CParts → List (List ℕ)
  parts_names plain.NoPart = []
  parts_names (plain.MorePart p ps) = part_names p ++ parts_names ps
