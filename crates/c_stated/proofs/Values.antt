-- The operations of an expression with uses are those without, and a use for each call.
use Rattle.std.proofs.Common.{ℕ, ◌+◌, ◌*◌, ◌≤◌, arith}
use Rattle.c_syntax.specs.Plain.{CExpr, CExprs, NoExpr, MoreExpr, Number, Str, Null, Var, Unary, Step, Binary, Assign, Cond, Comma, Cast, SizeTy, SizeOf, Index, Call, Member, Arrow}
use Rattle.c_syntax.specs.declared.tree.UnOp.{UnOp}
use Rattle.c_syntax.specs.declared.tree.UnOp.TheVariants as unary
use Rattle.c_syntax.specs.declared.tree.BinOp.{BinOp}
use Rattle.c_syntax.specs.declared.tree.BinOp.TheVariants as binary
use Rattle.c_valued.specs.Steps.{binary_steps, binary_truth_steps, unary_truth_steps, steps, truth_steps, all_steps}
use Rattle.c_stated.specs.Worth.{calls_in, all_calls}

-- each side takes so many more
binary_more : (op : BinOp) (s t m n s0 t0 m0 n0 x y : ℕ) → s ≤ s0 + x → t ≤ t0 + y → m ≤ m0 + x → n ≤ n0 + y → binary_steps op s t m n ≤ binary_steps op s0 t0 m0 n0 + (x + y)
binary_more binary.Or s t m n s0 t0 m0 n0 x y e f g h = omega (arith, e, f, g, h)
binary_more binary.And s t m n s0 t0 m0 n0 x y e f g h = omega (arith, e, f, g, h)
binary_more binary.BitOr s t m n s0 t0 m0 n0 x y e f g h = omega (arith, e, f, g, h)
binary_more binary.BitXor s t m n s0 t0 m0 n0 x y e f g h = omega (arith, e, f, g, h)
binary_more binary.BitAnd s t m n s0 t0 m0 n0 x y e f g h = omega (arith, e, f, g, h)
binary_more binary.Eq s t m n s0 t0 m0 n0 x y e f g h = omega (arith, e, f, g, h)
binary_more binary.Ne s t m n s0 t0 m0 n0 x y e f g h = omega (arith, e, f, g, h)
binary_more binary.Lt s t m n s0 t0 m0 n0 x y e f g h = omega (arith, e, f, g, h)
binary_more binary.Gt s t m n s0 t0 m0 n0 x y e f g h = omega (arith, e, f, g, h)
binary_more binary.Le s t m n s0 t0 m0 n0 x y e f g h = omega (arith, e, f, g, h)
binary_more binary.Ge s t m n s0 t0 m0 n0 x y e f g h = omega (arith, e, f, g, h)
binary_more binary.Shl s t m n s0 t0 m0 n0 x y e f g h = omega (arith, e, f, g, h)
binary_more binary.Shr s t m n s0 t0 m0 n0 x y e f g h = omega (arith, e, f, g, h)
binary_more binary.Add s t m n s0 t0 m0 n0 x y e f g h = omega (arith, e, f, g, h)
binary_more binary.Sub s t m n s0 t0 m0 n0 x y e f g h = omega (arith, e, f, g, h)
binary_more binary.Mul s t m n s0 t0 m0 n0 x y e f g h = omega (arith, e, f, g, h)
binary_more binary.Div s t m n s0 t0 m0 n0 x y e f g h = omega (arith, e, f, g, h)
binary_more binary.Mod s t m n s0 t0 m0 n0 x y e f g h = omega (arith, e, f, g, h)

binary_truth_more : (op : BinOp) (s t m n s0 t0 m0 n0 x y : ℕ) → s ≤ s0 + x → t ≤ t0 + y → m ≤ m0 + x → n ≤ n0 + y → binary_truth_steps op s t m n ≤ binary_truth_steps op s0 t0 m0 n0 + (x + y)
binary_truth_more binary.Or s t m n s0 t0 m0 n0 x y e f g h = omega (arith, e, f, g, h)
binary_truth_more binary.And s t m n s0 t0 m0 n0 x y e f g h = omega (arith, e, f, g, h)
binary_truth_more binary.BitOr s t m n s0 t0 m0 n0 x y e f g h = omega (arith, e, f, g, h)
binary_truth_more binary.BitXor s t m n s0 t0 m0 n0 x y e f g h = omega (arith, e, f, g, h)
binary_truth_more binary.BitAnd s t m n s0 t0 m0 n0 x y e f g h = omega (arith, e, f, g, h)
binary_truth_more binary.Eq s t m n s0 t0 m0 n0 x y e f g h = omega (arith, e, f, g, h)
binary_truth_more binary.Ne s t m n s0 t0 m0 n0 x y e f g h = omega (arith, e, f, g, h)
binary_truth_more binary.Lt s t m n s0 t0 m0 n0 x y e f g h = omega (arith, e, f, g, h)
binary_truth_more binary.Gt s t m n s0 t0 m0 n0 x y e f g h = omega (arith, e, f, g, h)
binary_truth_more binary.Le s t m n s0 t0 m0 n0 x y e f g h = omega (arith, e, f, g, h)
binary_truth_more binary.Ge s t m n s0 t0 m0 n0 x y e f g h = omega (arith, e, f, g, h)
binary_truth_more binary.Shl s t m n s0 t0 m0 n0 x y e f g h = omega (arith, e, f, g, h)
binary_truth_more binary.Shr s t m n s0 t0 m0 n0 x y e f g h = omega (arith, e, f, g, h)
binary_truth_more binary.Add s t m n s0 t0 m0 n0 x y e f g h = omega (arith, e, f, g, h)
binary_truth_more binary.Sub s t m n s0 t0 m0 n0 x y e f g h = omega (arith, e, f, g, h)
binary_truth_more binary.Mul s t m n s0 t0 m0 n0 x y e f g h = omega (arith, e, f, g, h)
binary_truth_more binary.Div s t m n s0 t0 m0 n0 x y e f g h = omega (arith, e, f, g, h)
binary_truth_more binary.Mod s t m n s0 t0 m0 n0 x y e f g h = omega (arith, e, f, g, h)

unary_truth_more : (op : UnOp) (s m s0 m0 x : ℕ) → s ≤ s0 + x → m ≤ m0 + x → unary_truth_steps op s m ≤ unary_truth_steps op s0 m0 + x
unary_truth_more unary.Address s m s0 m0 x e f = omega (arith, e, f)
unary_truth_more unary.Deref s m s0 m0 x e f = omega (arith, e, f)
unary_truth_more unary.Plus s m s0 m0 x e f = omega (arith, e, f)
unary_truth_more unary.Minus s m s0 m0 x e f = omega (arith, e, f)
unary_truth_more unary.Invert s m s0 m0 x e f = omega (arith, e, f)
unary_truth_more unary.Not s m s0 m0 x e f = omega (arith, e, f)

mutual
  pub steps_more : (u : ℕ) (e : CExpr) → steps u e ≤ steps 0 e + u * calls_in e
  steps_more u (Number at n x) = omega arith
  steps_more u (Str at text) = omega arith
  steps_more u (Null at) = omega arith
  steps_more u (Var at name) = omega arith
  steps_more u (Unary at op a) = omega (arith, steps_more u a)
  steps_more u (Step at op a) = omega (arith, steps_more u a)
  steps_more u (Binary at op a b) =
      let h = binary_more op (truth_steps u a) (truth_steps u b) (steps u a) (steps u b) (truth_steps 0 a) (truth_steps 0 b) (steps 0 a) (steps 0 b) (u * calls_in a) (u * calls_in b) (truth_more u a) (truth_more u b) (steps_more u a) (steps_more u b) in
      omega (arith, h)
  steps_more u (Assign at op a b) = omega (arith, steps_more u a, steps_more u b)
  steps_more u (Cond at a b c) = omega (arith, truth_more u a, steps_more u b, steps_more u c)
  steps_more u (Comma at a b) = omega (arith, steps_more u a, steps_more u b)
  steps_more u (Cast at t a) = steps_more u a
  steps_more u (SizeTy at t) = omega arith
  steps_more u (SizeOf at a) = omega arith
  steps_more u (Index at a b) = omega (arith, steps_more u a, steps_more u b)
  steps_more u (Call at f es) = omega (arith, steps_more u f, all_more u es)
  steps_more u (Member at a m) = omega (arith, steps_more u a)
  steps_more u (Arrow at a m) = omega (arith, steps_more u a)

  pub truth_more : (u : ℕ) (e : CExpr) → truth_steps u e ≤ truth_steps 0 e + u * calls_in e
  truth_more u (Number at n x) = omega arith
  truth_more u (Str at text) = omega arith
  truth_more u (Null at) = omega arith
  truth_more u (Var at name) = omega arith
  truth_more u (Unary at op a) = unary_truth_more op (truth_steps u a) (steps u a) (truth_steps 0 a) (steps 0 a) (u * calls_in a) (truth_more u a) (steps_more u a)
  truth_more u (Step at op a) = omega (arith, steps_more u a)
  truth_more u (Binary at op a b) =
      let h = binary_truth_more op (truth_steps u a) (truth_steps u b) (steps u a) (steps u b) (truth_steps 0 a) (truth_steps 0 b) (steps 0 a) (steps 0 b) (u * calls_in a) (u * calls_in b) (truth_more u a) (truth_more u b) (steps_more u a) (steps_more u b) in
      omega (arith, h)
  truth_more u (Assign at op a b) = omega (arith, steps_more u a, steps_more u b)
  truth_more u (Cond at a b c) = omega (arith, truth_more u a, steps_more u b, steps_more u c)
  truth_more u (Comma at a b) = omega (arith, steps_more u a, steps_more u b)
  truth_more u (Cast at t a) = omega (arith, steps_more u a)
  truth_more u (SizeTy at t) = omega arith
  truth_more u (SizeOf at a) = omega arith
  truth_more u (Index at a b) = omega (arith, steps_more u a, steps_more u b)
  truth_more u (Call at f es) = omega (arith, steps_more u f, all_more u es)
  truth_more u (Member at a m) = omega (arith, steps_more u a)
  truth_more u (Arrow at a m) = omega (arith, steps_more u a)

  pub all_more : (u : ℕ) (es : CExprs) → all_steps u es ≤ all_steps 0 es + u * all_calls es
  all_more u NoExpr = omega arith
  all_more u (MoreExpr e es) = omega (arith, steps_more u e, all_more u es)
