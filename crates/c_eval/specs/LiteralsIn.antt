-- The string literals that are objects, in the order of the text: formats, and what isn't evaluated, have none.
use Rattle.std.specs.Prelude.{ℕ, Bool, true, false, List, [], ◌∷◌, ◌++◌, Option, Some, None, if◌then◌else◌}
use Rattle.c_syntax.specs.Plain as plain
use Rattle.c_syntax.specs.Plain.{CExpr, CExprs, CValue, CValues, CStmt, CStmts, CPart, CParts}
use Rattle.c_types.specs.Scope.{Scope, Entity, Printf, entity_of, entered}
use Rattle.c_types.specs.Census.{scope_behind, scope_behind_head, scope_behind_part}

-- a name stands for `printf`
abbrev pub is_printf : Option Entity → Bool
is_printf (Some Printf) = true
is_printf _ = false

-- the expression is the name of `printf`
abbrev pub names_printf : Scope → CExpr → Bool
names_printf s (plain.Var at name) = is_printf (entity_of s name)
names_printf s _ = false

abbrev mutual
  -- of an expression, from left to right
  pub literals_in : Scope → CExpr → List (List ℕ)
  literals_in s (plain.Number at n unsigned) = []
  literals_in s (plain.Str at text) = text ∷ []
  literals_in s (plain.Null at) = []
  literals_in s (plain.Var at name) = []
  literals_in s (plain.Unary at op a) = literals_in s a
  literals_in s (plain.Step at op a) = literals_in s a
  literals_in s (plain.Binary at op a b) = literals_in s a ++ literals_in s b
  literals_in s (plain.Assign at op a b) = literals_in s a ++ literals_in s b
  literals_in s (plain.Cond at a b c) = literals_in s a ++ (literals_in s b ++ literals_in s c)
  literals_in s (plain.Comma at a b) = literals_in s a ++ literals_in s b
  literals_in s (plain.Cast at t a) = literals_in s a
  literals_in s (plain.SizeTy at t) = []
  literals_in s (plain.SizeOf at a) = []
  literals_in s (plain.Index at a b) = literals_in s a ++ literals_in s b
  literals_in s (plain.Call at f es) = literals_in s f ++ (if names_printf s f then literals_behind s es else literals_in_all s es)
  literals_in s (plain.Member at a m) = literals_in s a
  literals_in s (plain.Arrow at a m) = literals_in s a

  pub literals_in_all : Scope → CExprs → List (List ℕ)
  literals_in_all s plain.NoExpr = []
  literals_in_all s (plain.MoreExpr e es) = literals_in s e ++ literals_in_all s es

  -- those of all but the first
  pub literals_behind : Scope → CExprs → List (List ℕ)
  literals_behind s plain.NoExpr = []
  literals_behind s (plain.MoreExpr e es) = literals_in_all s es

abbrev mutual
  -- of a first value
  pub value_literals : Scope → CValue → List (List ℕ)
  value_literals s (plain.One e) = literals_in s e
  value_literals s (plain.Many vs) = values_literals s vs

  pub values_literals : Scope → CValues → List (List ℕ)
  values_literals s plain.NoValue = []
  values_literals s (plain.MoreValue v vs) = value_literals s v ++ values_literals s vs

-- of an expression that may be missing
abbrev pub maybe_literals : Scope → Option CExpr → List (List ℕ)
maybe_literals s None = []
maybe_literals s (Some e) = literals_in s e

-- of a first value that may be missing
abbrev pub first_literals : Scope → Option CValue → List (List ℕ)
first_literals s None = []
first_literals s (Some v) = value_literals s v

abbrev mutual
  -- of a statement; what a label has isn't evaluated
  pub stmt_literals : Scope → CStmt → List (List ℕ)
  stmt_literals s (plain.Block ss) = stmts_literals (entered s) ss
  stmt_literals s (plain.Local d) = first_literals (scope_behind s (plain.Local d)) d.first
  stmt_literals s (plain.Do_expr e) = literals_in s e
  stmt_literals s plain.Empty = []
  stmt_literals s (plain.If e t) = literals_in s e ++ stmt_literals s t
  stmt_literals s (plain.IfElse e t u) = literals_in s e ++ (stmt_literals s t ++ stmt_literals s u)
  stmt_literals s (plain.While e t) = literals_in s e ++ stmt_literals s t
  stmt_literals s (plain.Do t e) = stmt_literals s t ++ literals_in s e
  stmt_literals s (plain.For first test step t) =
      let inner = scope_behind_head s first in
      stmt_literals s first ++ (maybe_literals inner test ++ (maybe_literals inner step ++ stmt_literals inner t))
  stmt_literals s (plain.Return at e) = maybe_literals s e
  stmt_literals s (plain.Break at) = []
  stmt_literals s (plain.Continue at) = []
  stmt_literals s (plain.Switch e ps) = literals_in s e ++ parts_literals (entered s) ps

  pub stmts_literals : Scope → CStmts → List (List ℕ)
  stmts_literals s plain.NoStmt = []
  stmts_literals s (plain.MoreStmt t ts) = stmt_literals s t ++ stmts_literals (scope_behind s t) ts

  pub part_literals : Scope → CPart → List (List ℕ)
  part_literals s (plain.Label at e) = []
  part_literals s (plain.Item t) = stmt_literals s t

  pub parts_literals : Scope → CParts → List (List ℕ)
  parts_literals s plain.NoPart = []
  parts_literals s (plain.MorePart p ps) = part_literals s p ++ parts_literals (scope_behind_part s p) ps
