-- How many operations are run at most for an expression.
use Rattle.std.specs.Prelude.{ℕ, ◌+◌}
use Rattle.c_syntax.specs.Plain as plain
use Rattle.c_syntax.specs.Plain.{CExpr, CExprs}
use Rattle.c_syntax.specs.declared.tree.UnOp.{UnOp}
use Rattle.c_syntax.specs.declared.tree.UnOp.TheVariants as unary
use Rattle.c_syntax.specs.declared.tree.BinOp.{BinOp}
use Rattle.c_syntax.specs.declared.tree.BinOp.TheVariants as binary

-- from the sides as conditions and as values
abbrev pub binary_steps : BinOp → (truth_left truth_right left right : ℕ) → ℕ
binary_steps binary.And s t m n = s + t + 3
binary_steps binary.Or s t m n = s + t + 3
binary_steps op s t m n = m + n + 10

abbrev pub binary_truth_steps : BinOp → (truth_left truth_right left right : ℕ) → ℕ
binary_truth_steps binary.And s t m n = s + t
binary_truth_steps binary.Or s t m n = s + t
binary_truth_steps op s t m n = m + n + 11

abbrev pub unary_truth_steps : UnOp → (truth value : ℕ) → ℕ
unary_truth_steps unary.Not s m = s
unary_truth_steps op s m = m + 4

abbrev mutual
  -- of a value or a place, where a use of a helper function runs at most u
  pub steps : ℕ → CExpr → ℕ
  steps u (plain.Var at name) = 3
  steps u (plain.Unary at op a) = steps u a + 3
  steps u (plain.Step at op a) = steps u a + 6
  steps u (plain.Binary at op a b) = binary_steps op (truth_steps u a) (truth_steps u b) (steps u a) (steps u b)
  steps u (plain.Assign at op a b) = steps u a + steps u b + 10
  steps u (plain.Cond at a b c) = truth_steps u a + (steps u b + steps u c + 1)
  steps u (plain.Comma at a b) = steps u a + steps u b
  steps u (plain.Cast at t a) = steps u a
  steps u (plain.Index at a b) = steps u a + steps u b + 11
  steps u (plain.Call at f es) = steps u f + all_steps u es + 9 + u
  steps u (plain.Member at a m) = steps u a + 3
  steps u (plain.Arrow at a m) = steps u a + 2
  steps u _ = 1

  -- of a condition
  pub truth_steps : ℕ → CExpr → ℕ
  truth_steps u (plain.Var at name) = 4
  truth_steps u (plain.Unary at op a) = unary_truth_steps op (truth_steps u a) (steps u a)
  truth_steps u (plain.Binary at op a b) = binary_truth_steps op (truth_steps u a) (truth_steps u b) (steps u a) (steps u b)
  truth_steps u (plain.Step at op a) = steps u a + 7
  truth_steps u (plain.Assign at op a b) = steps u a + steps u b + 11
  truth_steps u (plain.Cond at a b c) = truth_steps u a + (steps u b + steps u c + 1) + 1
  truth_steps u (plain.Comma at a b) = steps u a + steps u b + 1
  truth_steps u (plain.Cast at t a) = steps u a + 1
  truth_steps u (plain.Index at a b) = steps u a + steps u b + 12
  truth_steps u (plain.Call at f es) = steps u f + all_steps u es + 10 + u
  truth_steps u (plain.Member at a m) = steps u a + 4
  truth_steps u (plain.Arrow at a m) = steps u a + 3
  truth_steps u _ = 2

  -- each argument is saved
  pub all_steps : ℕ → CExprs → ℕ
  all_steps u plain.NoExpr = 0
  all_steps u (plain.MoreExpr e es) = steps u e + 3 + all_steps u es
