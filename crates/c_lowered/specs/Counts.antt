-- How many jumps the code of a tree has, wherever it stands.
use Rattle.std.specs.Prelude.{ℕ, suc, ◌+◌, Bool, false, ◌||◌, List, Option, Some, None, if◌then◌else◌}
use Rattle.std.specs.Str.{bytes_eq}
use Rattle.c_syntax.specs.Plain as plain
use Rattle.c_syntax.specs.Plain.{CExpr, CExprs, CValue, CValues, CStmt, CStmts, CPart, CParts}
use Rattle.c_syntax.specs.declared.tree.UnOp.{UnOp}
use Rattle.c_syntax.specs.declared.tree.UnOp.TheVariants as unary
use Rattle.c_syntax.specs.declared.tree.BinOp.{BinOp}
use Rattle.c_syntax.specs.declared.tree.BinOp.TheVariants as binary
use Rattle.c_helpers.specs.Functions.{unit_name, refill_name, piece_name}

-- what helper functions alone call has code of its own
abbrev pub is_known_to_helpers : List ℕ → Bool
is_known_to_helpers name = bytes_eq name unit_name || bytes_eq name refill_name || bytes_eq name piece_name

abbrev pub names_known : CExpr → Bool
names_known (plain.Var at name) = is_known_to_helpers name
names_known f = false

-- of a condition's code, from those of the sides as conditions and as values
abbrev pub binary_truth_jumps : BinOp → (truth_left truth_right left right : ℕ) → ℕ
binary_truth_jumps binary.And s t m n = s + t
binary_truth_jumps binary.Or s t m n = s + t
binary_truth_jumps op s t m n = m + n + 1

abbrev pub binary_jumps : BinOp → (truth_left truth_right left right : ℕ) → ℕ
binary_jumps binary.And s t m n = s + t + 2
binary_jumps binary.Or s t m n = s + t + 2
binary_jumps op s t m n = m + n

abbrev pub unary_truth_jumps : UnOp → (truth value : ℕ) → ℕ
unary_truth_jumps unary.Not s m = s
unary_truth_jumps op s m = m + 1

abbrev mutual
  -- of a value or a place
  pub expr_jumps : CExpr → ℕ
  expr_jumps (plain.Unary at op a) = expr_jumps a
  expr_jumps (plain.Step at op a) = expr_jumps a
  expr_jumps (plain.Binary at op a b) = binary_jumps op (truth_jumps a) (truth_jumps b) (expr_jumps a) (expr_jumps b)
  expr_jumps (plain.Assign at op a b) = expr_jumps a + expr_jumps b
  expr_jumps (plain.Cond at a b c) = truth_jumps a + expr_jumps b + expr_jumps c + 2
  expr_jumps (plain.Comma at a b) = expr_jumps a + expr_jumps b
  expr_jumps (plain.Cast at t a) = expr_jumps a
  expr_jumps (plain.Index at a b) = expr_jumps a + expr_jumps b
  expr_jumps (plain.Call at f es) = expr_jumps f + exprs_jumps es + (if names_known f then 0 else 1)
  expr_jumps (plain.Member at a m) = expr_jumps a
  expr_jumps (plain.Arrow at a m) = expr_jumps a
  expr_jumps _ = 0

  -- of a condition
  pub truth_jumps : CExpr → ℕ
  truth_jumps (plain.Unary at op a) = unary_truth_jumps op (truth_jumps a) (expr_jumps a)
  truth_jumps (plain.Binary at op a b) = binary_truth_jumps op (truth_jumps a) (truth_jumps b) (expr_jumps a) (expr_jumps b)
  truth_jumps (plain.Step at op a) = expr_jumps a + 1
  truth_jumps (plain.Assign at op a b) = expr_jumps a + expr_jumps b + 1
  truth_jumps (plain.Cond at a b c) = truth_jumps a + expr_jumps b + expr_jumps c + 3
  truth_jumps (plain.Comma at a b) = expr_jumps a + expr_jumps b + 1
  truth_jumps (plain.Cast at t a) = expr_jumps a + 1
  truth_jumps (plain.Index at a b) = expr_jumps a + expr_jumps b + 1
  truth_jumps (plain.Call at f es) = expr_jumps f + exprs_jumps es + (if names_known f then 0 else 1) + 1
  truth_jumps (plain.Member at a m) = expr_jumps a + 1
  truth_jumps (plain.Arrow at a m) = expr_jumps a + 1
  truth_jumps _ = 1

  pub exprs_jumps : CExprs → ℕ
  exprs_jumps plain.NoExpr = 0
  exprs_jumps (plain.MoreExpr e es) = expr_jumps e + exprs_jumps es

abbrev pub maybe_jumps : Option CExpr → ℕ
maybe_jumps None = 0
maybe_jumps (Some e) = expr_jumps e

-- a missing condition is true
abbrev pub maybe_truth_jumps : Option CExpr → ℕ
maybe_truth_jumps None = 0
maybe_truth_jumps (Some e) = truth_jumps e

abbrev mutual
  -- of a first value; a string in an array is spelled
  pub first_jumps : CValue → ℕ
  first_jumps (plain.One e) = expr_jumps e
  first_jumps (plain.Many vs) = firsts_jumps vs

  pub firsts_jumps : CValues → ℕ
  firsts_jumps plain.NoValue = 0
  firsts_jumps (plain.MoreValue v vs) = first_jumps v + firsts_jumps vs

abbrev pub maybe_first_jumps : Option CValue → ℕ
maybe_first_jumps None = 0
maybe_first_jumps (Some v) = first_jumps v

-- the comparisons of a `switch`, one for each `case`
abbrev pub case_jumps : CParts → ℕ
case_jumps plain.NoPart = 0
case_jumps (plain.MorePart (plain.Label at (Some e)) ps) = suc (case_jumps ps)
case_jumps (plain.MorePart p ps) = case_jumps ps

abbrev mutual
  -- of a statement
  pub stmt_jumps : CStmt → ℕ
  stmt_jumps (plain.Block ss) = stmts_jumps ss
  stmt_jumps (plain.Local d) = maybe_first_jumps d.first
  stmt_jumps (plain.Do_expr e) = expr_jumps e
  stmt_jumps plain.Empty = 0
  stmt_jumps (plain.If e t) = truth_jumps e + stmt_jumps t + 1
  stmt_jumps (plain.IfElse e t u) = truth_jumps e + stmt_jumps t + stmt_jumps u + 2
  stmt_jumps (plain.While e t) = truth_jumps e + stmt_jumps t + 2
  stmt_jumps (plain.Do t e) = stmt_jumps t + truth_jumps e + 2
  stmt_jumps (plain.For first test step t) = stmt_jumps first + maybe_truth_jumps test + stmt_jumps t + maybe_jumps step + 3
  stmt_jumps (plain.Return at e) = maybe_jumps e + 1
  stmt_jumps (plain.Break at) = 1
  stmt_jumps (plain.Continue at) = 1
  stmt_jumps (plain.Switch e ps) = expr_jumps e + case_jumps ps + parts_jumps ps + 2

  pub stmts_jumps : CStmts → ℕ
  stmts_jumps plain.NoStmt = 0
  stmts_jumps (plain.MoreStmt t ts) = stmt_jumps t + stmts_jumps ts

  -- a label is jumped to, so what stands before it ends with a jump
  pub part_jumps : CPart → ℕ
  part_jumps (plain.Label at e) = 1
  part_jumps (plain.Item t) = stmt_jumps t

  pub parts_jumps : CParts → ℕ
  parts_jumps plain.NoPart = 0
  parts_jumps (plain.MorePart p ps) = part_jumps p + parts_jumps ps
