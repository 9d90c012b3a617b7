-- Steps whose value isn't used.
use Rattle.std.proofs.Common.{◌≡◌, ℕ, ◌+◌, refl, arith}
use Rattle.c_syntax.specs.Plain as tree
use Rattle.c_syntax.specs.Plain.{CExpr}
use Rattle.c_syntax.specs.declared.tree.StepOp.{StepOp}
use Rattle.c_syntax.specs.declared.tree.StepOp.TheVariants.{PreInc, PreDec, PostInc, PostDec}
use Rattle.c_lowered.specs.Expressions.{unused}
use Rattle.c_lower_simple.specs.Unused.{updating}

pub unused_is : (at : ℕ) (op : StepOp) (a : CExpr) → unused (tree.Step at op a) ≡ tree.Step at (updating op) a
unused_is at PostInc a = refl
unused_is at PostDec a = refl
unused_is at PreInc a = refl
unused_is at PreDec a = refl

pub one_more : (m x : ℕ) → m + x + 1 ≡ m + (x + 1)
one_more m x = omega arith
