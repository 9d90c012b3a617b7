-- The operations that are run for an expression are at most what the tree costs.
use Rattle.std.proofs.Common.{ℕ, ◌+◌, ◌≤◌, arith}
use Rattle.c_syntax.specs.Plain.{CExpr, CExprs, NoExpr, MoreExpr, Number, Str, Null, Var, Unary, Step, Binary, Assign, Cond, Comma, Cast, SizeTy, SizeOf, Index, Call, Member, Arrow}
use Rattle.c_syntax.specs.declared.tree.UnOp.{UnOp}
use Rattle.c_syntax.specs.declared.tree.UnOp.TheVariants as unary
use Rattle.c_syntax.specs.declared.tree.BinOp.{BinOp}
use Rattle.c_syntax.specs.declared.tree.BinOp.TheVariants as binary
use Rattle.c_helpers.specs.Cost.{cost_of, costs_of}
use Rattle.c_valued.specs.Steps.{binary_steps, binary_truth_steps, unary_truth_steps, steps, truth_steps, all_steps}

binary_fits : (op : BinOp) (s t m n a b : ℕ) → s ≤ a → t ≤ b → m + 3 ≤ a → n + 3 ≤ b → binary_steps op s t m n + 3 ≤ 15 + a + b
binary_fits binary.Or s t m n a b e f g h = omega (arith, e, f, g, h)
binary_fits binary.And s t m n a b e f g h = omega (arith, e, f, g, h)
binary_fits binary.BitOr s t m n a b e f g h = omega (arith, e, f, g, h)
binary_fits binary.BitXor s t m n a b e f g h = omega (arith, e, f, g, h)
binary_fits binary.BitAnd s t m n a b e f g h = omega (arith, e, f, g, h)
binary_fits binary.Eq s t m n a b e f g h = omega (arith, e, f, g, h)
binary_fits binary.Ne s t m n a b e f g h = omega (arith, e, f, g, h)
binary_fits binary.Lt s t m n a b e f g h = omega (arith, e, f, g, h)
binary_fits binary.Gt s t m n a b e f g h = omega (arith, e, f, g, h)
binary_fits binary.Le s t m n a b e f g h = omega (arith, e, f, g, h)
binary_fits binary.Ge s t m n a b e f g h = omega (arith, e, f, g, h)
binary_fits binary.Shl s t m n a b e f g h = omega (arith, e, f, g, h)
binary_fits binary.Shr s t m n a b e f g h = omega (arith, e, f, g, h)
binary_fits binary.Add s t m n a b e f g h = omega (arith, e, f, g, h)
binary_fits binary.Sub s t m n a b e f g h = omega (arith, e, f, g, h)
binary_fits binary.Mul s t m n a b e f g h = omega (arith, e, f, g, h)
binary_fits binary.Div s t m n a b e f g h = omega (arith, e, f, g, h)
binary_fits binary.Mod s t m n a b e f g h = omega (arith, e, f, g, h)

binary_truth_fits : (op : BinOp) (s t m n a b : ℕ) → s ≤ a → t ≤ b → m + 3 ≤ a → n + 3 ≤ b → binary_truth_steps op s t m n ≤ 15 + a + b
binary_truth_fits binary.Or s t m n a b e f g h = omega (arith, e, f, g, h)
binary_truth_fits binary.And s t m n a b e f g h = omega (arith, e, f, g, h)
binary_truth_fits binary.BitOr s t m n a b e f g h = omega (arith, e, f, g, h)
binary_truth_fits binary.BitXor s t m n a b e f g h = omega (arith, e, f, g, h)
binary_truth_fits binary.BitAnd s t m n a b e f g h = omega (arith, e, f, g, h)
binary_truth_fits binary.Eq s t m n a b e f g h = omega (arith, e, f, g, h)
binary_truth_fits binary.Ne s t m n a b e f g h = omega (arith, e, f, g, h)
binary_truth_fits binary.Lt s t m n a b e f g h = omega (arith, e, f, g, h)
binary_truth_fits binary.Gt s t m n a b e f g h = omega (arith, e, f, g, h)
binary_truth_fits binary.Le s t m n a b e f g h = omega (arith, e, f, g, h)
binary_truth_fits binary.Ge s t m n a b e f g h = omega (arith, e, f, g, h)
binary_truth_fits binary.Shl s t m n a b e f g h = omega (arith, e, f, g, h)
binary_truth_fits binary.Shr s t m n a b e f g h = omega (arith, e, f, g, h)
binary_truth_fits binary.Add s t m n a b e f g h = omega (arith, e, f, g, h)
binary_truth_fits binary.Sub s t m n a b e f g h = omega (arith, e, f, g, h)
binary_truth_fits binary.Mul s t m n a b e f g h = omega (arith, e, f, g, h)
binary_truth_fits binary.Div s t m n a b e f g h = omega (arith, e, f, g, h)
binary_truth_fits binary.Mod s t m n a b e f g h = omega (arith, e, f, g, h)

unary_truth_fits : (op : UnOp) (s m a : ℕ) → s ≤ a → m + 3 ≤ a → unary_truth_steps op s m ≤ 5 + a
unary_truth_fits unary.Address s m a e f = omega (arith, e, f)
unary_truth_fits unary.Deref s m a e f = omega (arith, e, f)
unary_truth_fits unary.Plus s m a e f = omega (arith, e, f)
unary_truth_fits unary.Minus s m a e f = omega (arith, e, f)
unary_truth_fits unary.Invert s m a e f = omega (arith, e, f)
unary_truth_fits unary.Not s m a e f = omega (arith, e, f)

mutual
  -- there is room for one word to be saved
  pub steps_fit : (e : CExpr) → steps 0 e + 3 ≤ cost_of e
  steps_fit (Number at n x) = omega arith
  steps_fit (Str at text) = omega arith
  steps_fit (Null at) = omega arith
  steps_fit (Var at name) = omega arith
  steps_fit (Unary at op a) = omega (arith, steps_fit a)
  steps_fit (Step at op a) = omega (arith, steps_fit a)
  steps_fit (Binary at op a b) = binary_fits op (truth_steps 0 a) (truth_steps 0 b) (steps 0 a) (steps 0 b) (cost_of a) (cost_of b) (truth_fits a) (truth_fits b) (steps_fit a) (steps_fit b)
  steps_fit (Assign at op a b) = omega (arith, steps_fit a, steps_fit b)
  steps_fit (Cond at a b c) = omega (arith, truth_fits a, steps_fit b, steps_fit c)
  steps_fit (Comma at a b) = omega (arith, steps_fit a, steps_fit b)
  steps_fit (Cast at t a) = steps_fit a
  steps_fit (SizeTy at t) = omega arith
  steps_fit (SizeOf at a) = omega arith
  steps_fit (Index at a b) = omega (arith, steps_fit a, steps_fit b)
  steps_fit (Call at f es) = omega (arith, steps_fit f, all_fit es)
  steps_fit (Member at a m) = omega (arith, steps_fit a)
  steps_fit (Arrow at a m) = omega (arith, steps_fit a)

  pub truth_fits : (e : CExpr) → truth_steps 0 e ≤ cost_of e
  truth_fits (Number at n x) = omega arith
  truth_fits (Str at text) = omega arith
  truth_fits (Null at) = omega arith
  truth_fits (Var at name) = omega arith
  truth_fits (Unary at op a) = unary_truth_fits op (truth_steps 0 a) (steps 0 a) (cost_of a) (truth_fits a) (steps_fit a)
  truth_fits (Step at op a) = omega (arith, steps_fit a)
  truth_fits (Binary at op a b) = binary_truth_fits op (truth_steps 0 a) (truth_steps 0 b) (steps 0 a) (steps 0 b) (cost_of a) (cost_of b) (truth_fits a) (truth_fits b) (steps_fit a) (steps_fit b)
  truth_fits (Assign at op a b) = omega (arith, steps_fit a, steps_fit b)
  truth_fits (Cond at a b c) = omega (arith, truth_fits a, steps_fit b, steps_fit c)
  truth_fits (Comma at a b) = omega (arith, steps_fit a, steps_fit b)
  truth_fits (Cast at t a) = omega (arith, steps_fit a)
  truth_fits (SizeTy at t) = omega arith
  truth_fits (SizeOf at a) = omega arith
  truth_fits (Index at a b) = omega (arith, steps_fit a, steps_fit b)
  truth_fits (Call at f es) = omega (arith, steps_fit f, all_fit es)
  truth_fits (Member at a m) = omega (arith, steps_fit a)
  truth_fits (Arrow at a m) = omega (arith, steps_fit a)

  pub all_fit : (es : CExprs) → all_steps 0 es ≤ costs_of es
  all_fit NoExpr = omega arith
  all_fit (MoreExpr e es) = omega (arith, steps_fit e, all_fit es)
