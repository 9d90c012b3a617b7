-- How many operations the code of a tree has at most.
use Rattle.std.specs.Prelude.{ℕ, ◌+◌, List, [], ◌∷◌, length, Option, Some, None, if◌then◌else◌}
use Rattle.c_syntax.specs.Plain as plain
use Rattle.c_syntax.specs.Plain.{CExpr, CExprs, CValue, CValues, CDecl, CStmt, CStmts, CPart, CParts}
use Rattle.c_syntax.specs.declared.tree.UnOp.{UnOp}
use Rattle.c_syntax.specs.declared.tree.UnOp.TheVariants as unary
use Rattle.c_syntax.specs.declared.tree.BinOp.{BinOp}
use Rattle.c_syntax.specs.declared.tree.BinOp.TheVariants as binary
use Rattle.c_types.specs.Types.{CType}
use Rattle.c_types.specs.Scope.{Scope, entered}
use Rattle.c_types.specs.Declarations.{Slots, first_slot, next_slots, slots_of, takes_string}
use Rattle.c_types.specs.Census.{scope_behind, scope_behind_head, scope_behind_part}
use Rattle.c_eval.specs.Environment.{object_type_in, slot_kinds, type_or_nothing}
use Rattle.c_eval.specs.Eval.{array_text}
use Rattle.c_eval.specs.Text.{Definition}

-- from the sides as conditions and as values
abbrev pub binary_ops : BinOp → (truth_left truth_right left right : ℕ) → ℕ
binary_ops binary.And s t m n = s + t + 4
binary_ops binary.Or s t m n = s + t + 4
binary_ops op s t m n = m + n + 10

abbrev pub binary_truth_ops : BinOp → (truth_left truth_right left right : ℕ) → ℕ
binary_truth_ops binary.And s t m n = s + t
binary_truth_ops binary.Or s t m n = s + t
binary_truth_ops op s t m n = m + n + 11

abbrev pub unary_truth_ops : UnOp → (truth value : ℕ) → ℕ
unary_truth_ops unary.Not s m = s
unary_truth_ops op s m = m + 4

abbrev mutual
  -- of a value or a place
  pub expr_ops : CExpr → ℕ
  expr_ops (plain.Var at name) = 3
  expr_ops (plain.Unary at op a) = expr_ops a + 3
  expr_ops (plain.Step at op a) = expr_ops a + 6
  expr_ops (plain.Binary at op a b) = binary_ops op (truth_ops a) (truth_ops b) (expr_ops a) (expr_ops b)
  expr_ops (plain.Assign at op a b) = expr_ops a + expr_ops b + 10
  expr_ops (plain.Cond at a b c) = truth_ops a + expr_ops b + expr_ops c + 2
  expr_ops (plain.Comma at a b) = expr_ops a + expr_ops b
  expr_ops (plain.Cast at t a) = expr_ops a
  expr_ops (plain.Index at a b) = expr_ops a + expr_ops b + 8
  expr_ops (plain.Call at f es) = expr_ops f + exprs_ops es + 9
  expr_ops (plain.Member at a m) = expr_ops a + 3
  expr_ops (plain.Arrow at a m) = expr_ops a + 2
  expr_ops _ = 1

  -- of a condition
  pub truth_ops : CExpr → ℕ
  truth_ops (plain.Var at name) = 4
  truth_ops (plain.Unary at op a) = unary_truth_ops op (truth_ops a) (expr_ops a)
  truth_ops (plain.Step at op a) = expr_ops a + 7
  truth_ops (plain.Binary at op a b) = binary_truth_ops op (truth_ops a) (truth_ops b) (expr_ops a) (expr_ops b)
  truth_ops (plain.Assign at op a b) = expr_ops a + expr_ops b + 11
  truth_ops (plain.Cond at a b c) = truth_ops a + expr_ops b + expr_ops c + 3
  truth_ops (plain.Comma at a b) = expr_ops a + expr_ops b + 1
  truth_ops (plain.Cast at t a) = expr_ops a + 1
  truth_ops (plain.Index at a b) = expr_ops a + expr_ops b + 9
  truth_ops (plain.Call at f es) = expr_ops f + exprs_ops es + 10
  truth_ops (plain.Member at a m) = expr_ops a + 4
  truth_ops (plain.Arrow at a m) = expr_ops a + 3
  truth_ops _ = 2

  -- each argument is saved
  pub exprs_ops : CExprs → ℕ
  exprs_ops plain.NoExpr = 0
  exprs_ops (plain.MoreExpr e es) = expr_ops e + 3 + exprs_ops es

abbrev pub maybe_ops : Option CExpr → ℕ
maybe_ops None = 0
maybe_ops (Some e) = expr_ops e

abbrev pub maybe_truth_ops : Option CExpr → ℕ
maybe_truth_ops None = 0
maybe_truth_ops (Some e) = truth_ops e

-- ---- words that are spelled one by one in a frame

abbrev mutual
  -- those of a first value: strings in arrays, and what is missing
  pub first_words : Scope → CType → CValue → ℕ
  first_words s t (plain.One e) = if takes_string t e then length (array_text t e) else 0
  first_words s t (plain.Many vs) = firsts_words s (slots_of s.tags (Some t)) vs

  pub firsts_words : Scope → Slots → CValues → ℕ
  firsts_words s slots plain.NoValue = length (slot_kinds s.tags slots)
  firsts_words s slots (plain.MoreValue v vs) = first_words s (type_or_nothing (first_slot slots)) v + firsts_words s (next_slots slots) vs

abbrev pub declared_words : Scope → CDecl → Option CValue → ℕ
declared_words s d None = 0
declared_words s d (Some v) = first_words (scope_behind s (plain.Local d)) (object_type_in s d) v

abbrev mutual
  -- those of a statement
  pub stmt_words : Scope → CStmt → ℕ
  stmt_words s (plain.Block ss) = stmts_words (entered s) ss
  stmt_words s (plain.Local d) = declared_words s d d.first
  stmt_words s (plain.If e t) = stmt_words s t
  stmt_words s (plain.IfElse e t u) = stmt_words s t + stmt_words s u
  stmt_words s (plain.While e t) = stmt_words s t
  stmt_words s (plain.Do t e) = stmt_words s t
  stmt_words s (plain.For first test step t) = stmt_words s first + stmt_words (scope_behind_head s first) t
  stmt_words s (plain.Switch e ps) = parts_words (entered s) ps
  stmt_words s _ = 0

  pub stmts_words : Scope → CStmts → ℕ
  stmts_words s plain.NoStmt = 0
  stmts_words s (plain.MoreStmt t ts) = stmt_words s t + stmts_words (scope_behind s t) ts

  pub part_words : Scope → CPart → ℕ
  part_words s (plain.Label at e) = 0
  part_words s (plain.Item t) = stmt_words s t

  pub parts_words : Scope → CParts → ℕ
  parts_words s plain.NoPart = 0
  parts_words s (plain.MorePart p ps) = part_words s p + parts_words (scope_behind_part s p) ps

-- those of the functions of a text
abbrev pub functions_words : List Definition → ℕ
functions_words [] = 0
functions_words (f ∷ fs) = stmt_words f.scope f.body + functions_words fs
