-- How often a tree may call, and so use a helper function, in one evaluation.
use Rattle.std.specs.Prelude.{ℕ, ◌+◌, ◌*◌, ◌≤◌, Option, Some, None}
use Rattle.c_syntax.specs.Plain as plain
use Rattle.c_syntax.specs.Plain.{CExpr, CExprs, CValue, CValues, CStmt, CStmts, CParts}
use Rattle.c_eval.specs.Environment.{Environment}
use Rattle.c_helpers.specs.Cost.{cost_of, stmt_cost}
use Rattle.c_stated.specs.Counts.{stmt_words}
use Rattle.c_valued.specs.Steps.{steps, truth_steps}
use Rattle.c_stated.specs.Statements.{stmt_steps}

abbrev mutual
  -- the calls in an expression
  pub calls_in : CExpr → ℕ
  calls_in (plain.Unary at op a) = calls_in a
  calls_in (plain.Step at op a) = calls_in a
  calls_in (plain.Binary at op a b) = calls_in a + calls_in b
  calls_in (plain.Assign at op a b) = calls_in a + calls_in b
  calls_in (plain.Cond at a b c) = calls_in a + (calls_in b + calls_in c)
  calls_in (plain.Comma at a b) = calls_in a + calls_in b
  calls_in (plain.Cast at t a) = calls_in a
  calls_in (plain.SizeTy at t) = 0
  calls_in (plain.SizeOf at a) = 0
  calls_in (plain.Index at a b) = calls_in a + calls_in b
  calls_in (plain.Call at f es) = calls_in f + all_calls es + 1
  calls_in (plain.Member at a m) = calls_in a
  calls_in (plain.Arrow at a m) = calls_in a
  calls_in _ = 0

  pub all_calls : CExprs → ℕ
  all_calls plain.NoExpr = 0
  all_calls (plain.MoreExpr e es) = calls_in e + all_calls es

abbrev pub maybe_calls : Option CExpr → ℕ
maybe_calls None = 0
maybe_calls (Some e) = calls_in e

abbrev mutual
  -- of a first value
  pub first_calls : CValue → ℕ
  first_calls (plain.One e) = calls_in e
  first_calls (plain.Many vs) = firsts_calls vs

  pub firsts_calls : CValues → ℕ
  firsts_calls plain.NoValue = 0
  firsts_calls (plain.MoreValue v vs) = first_calls v + firsts_calls vs

abbrev pub maybe_first_calls : Option CValue → ℕ
maybe_first_calls None = 0
maybe_first_calls (Some v) = first_calls v

abbrev mutual
  -- of a statement, in which each part is evaluated once
  pub stmt_calls : CStmt → ℕ
  stmt_calls (plain.Block ss) = stmts_calls ss
  stmt_calls (plain.Local d) = maybe_first_calls d.first
  stmt_calls (plain.Do_expr e) = calls_in e
  stmt_calls plain.Empty = 0
  stmt_calls (plain.If e t) = calls_in e + stmt_calls t
  stmt_calls (plain.IfElse e t v) = calls_in e + (stmt_calls t + stmt_calls v)
  stmt_calls (plain.While e t) = calls_in e + stmt_calls t
  stmt_calls (plain.Do t e) = stmt_calls t + calls_in e
  stmt_calls (plain.For start test step t) = stmt_calls start + (maybe_calls test + (maybe_calls step + stmt_calls t))
  stmt_calls (plain.Return at e) = maybe_calls e
  stmt_calls (plain.Break at) = 0
  stmt_calls (plain.Continue at) = 0
  stmt_calls (plain.Switch e ps) = calls_in e + parts_calls ps

  pub stmts_calls : CStmts → ℕ
  stmts_calls plain.NoStmt = 0
  stmts_calls (plain.MoreStmt t ts) = stmt_calls t + stmts_calls ts

  pub parts_calls : CParts → ℕ
  parts_calls plain.NoPart = 0
  parts_calls (plain.MorePart (plain.Label at e) ps) = parts_calls ps
  parts_calls (plain.MorePart (plain.Item t) ps) = stmt_calls t + parts_calls ps

-- where a use runs at most u operations
pub record UnitsAreWorth : Type 0 where
  pub value : (u : ℕ) (e : CExpr) → steps u e + 3 ≤ cost_of e + u * calls_in e
  pub condition : (u : ℕ) (e : CExpr) → truth_steps u e ≤ cost_of e + u * calls_in e
  pub statement : (u : ℕ) (t : CStmt) (site : Environment) → stmt_steps u t site ≤ stmt_cost t + 4 * stmt_words site.scope t + u * stmt_calls t
