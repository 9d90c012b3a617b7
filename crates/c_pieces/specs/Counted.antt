-- Numbers of words that instructions hold.
use Rattle.std.specs.Prelude.{ℕ, ◌<◌, ◌^◌, List}
use Rattle.c_syntax.specs.declared.tree.BinOp.{BinOp}
use Rattle.c_types.specs.Types.{CType, Tags}
use Rattle.c_eval.specs.Operators.{element_words}
use Rattle.c_resolved.specs.Resolved.{HasElements}

-- the elements to which pointers of two types point have fewer than 2^24 words, and at least one where elements are counted
pub record AreCounted (tags : Tags) (op : BinOp) (t u : CType) : Type 0 where
  pub left : element_words tags t < 2 ^ 24
  pub right : element_words tags u < 2 ^ 24
  pub some : HasElements tags op t
