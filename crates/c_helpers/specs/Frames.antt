-- The words that a call of a function takes in memory.
use Rattle.std.specs.Prelude.{ℕ, ◌+◌, max, Option, Some, None, if◌then◌else◌}
use Rattle.c_syntax.specs.Plain as plain
use Rattle.c_syntax.specs.Plain.{CExpr, CExprs, CValue, CValues, CStmt, CStmts, CPart, CParts}
use Rattle.c_helpers.specs.Meanings.{is_format}

-- behind the arguments of a call: the function of a format stands in its caller's frame
abbrev pub beyond : CExpr → ℕ
beyond (plain.Var at name) = if is_format name then 6 else 0
beyond f = 0

abbrev mutual
  -- how many words wait at once while an expression is evaluated
  pub waiting : CExpr → ℕ
  waiting (plain.Unary at op a) = waiting a
  waiting (plain.Step at op a) = waiting a + 1
  waiting (plain.Binary at op a b) = max (waiting a) (waiting b + 1)
  waiting (plain.Assign at op a b) = max (waiting a) (waiting b + 2)
  waiting (plain.Cond at a b c) = max (waiting a) (max (waiting b) (waiting c))
  waiting (plain.Comma at a b) = max (waiting a) (waiting b)
  waiting (plain.Cast at t a) = waiting a
  waiting (plain.Index at a b) = max (waiting a) (waiting b + 1)
  -- the called function waits, and then the arguments
  waiting (plain.Call at f es) = max (waiting f) (waiting_all 1 (beyond f) es)
  waiting (plain.Member at a m) = waiting a
  waiting (plain.Arrow at a m) = waiting a
  waiting _ = 0

  pub waiting_all : (before behind : ℕ) → CExprs → ℕ
  waiting_all before behind plain.NoExpr = before + behind
  waiting_all before behind (plain.MoreExpr e es) = max (waiting e + before) (waiting_all (before + 1) behind es)

abbrev pub maybe_waiting : Option CExpr → ℕ
maybe_waiting None = 0
maybe_waiting (Some e) = waiting e

abbrev mutual
  -- while a first value is set, its place waits
  pub value_waiting : CValue → ℕ
  value_waiting (plain.One e) = waiting e + 1
  value_waiting (plain.Many vs) = values_waiting vs

  pub values_waiting : CValues → ℕ
  values_waiting plain.NoValue = 1
  values_waiting (plain.MoreValue v vs) = max (value_waiting v) (values_waiting vs)

abbrev pub first_waiting : Option CValue → ℕ
first_waiting None = 0
first_waiting (Some v) = value_waiting v

abbrev mutual
  -- in a statement
  pub stmt_waiting : CStmt → ℕ
  stmt_waiting (plain.Block ss) = stmts_waiting ss
  stmt_waiting (plain.Local d) = first_waiting d.first
  stmt_waiting (plain.Do_expr e) = waiting e
  stmt_waiting plain.Empty = 0
  stmt_waiting (plain.If e t) = max (waiting e) (stmt_waiting t)
  stmt_waiting (plain.IfElse e t u) = max (waiting e) (max (stmt_waiting t) (stmt_waiting u))
  stmt_waiting (plain.While e t) = max (waiting e) (stmt_waiting t)
  stmt_waiting (plain.Do t e) = max (stmt_waiting t) (waiting e)
  stmt_waiting (plain.For first test step t) = max (stmt_waiting first) (max (maybe_waiting test) (max (maybe_waiting step) (stmt_waiting t)))
  stmt_waiting (plain.Return at e) = maybe_waiting e
  stmt_waiting (plain.Break at) = 0
  stmt_waiting (plain.Continue at) = 0
  stmt_waiting (plain.Switch e ps) = max (waiting e) (parts_waiting ps)

  pub stmts_waiting : CStmts → ℕ
  stmts_waiting plain.NoStmt = 0
  stmts_waiting (plain.MoreStmt t ts) = max (stmt_waiting t) (stmts_waiting ts)

  pub part_waiting : CPart → ℕ
  part_waiting (plain.Label at e) = 0
  part_waiting (plain.Item t) = stmt_waiting t

  pub parts_waiting : CParts → ℕ
  parts_waiting plain.NoPart = 0
  parts_waiting (plain.MorePart p ps) = max (part_waiting p) (parts_waiting ps)

-- a frame has so many parameters, so many words of locals, the place to go back to, one spare word, and the words that wait
abbrev pub frame_words : (params locals : ℕ) → CStmt → ℕ
frame_words params locals body = params + locals + 2 + stmt_waiting body
