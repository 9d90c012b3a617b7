-- Trees with fewer operators, and the expressions from which they come.
use Rattle.std.specs.Prelude.{◌≡◌}
use Rattle.c_syntax.specs.Plain.{CExpr}
use Rattle.c_syntax.specs.View.{expr_of}
use Rattle.c_types.specs.Refusals.{Judged}
use Rattle.c_types.specs.Operands.{Operand}
use Rattle.c_types.specs.Scope.{Scope}
use Rattle.c_types.specs.Expressions.{judged}
use Rattle.c_types.specs.Table.{Table}
use Rattle.c_operands.specs.Seen.{IsOperand, IsJudged}
use Rattle.c_helpers.specs.Fewer.{fewer}
use Rattle.c_fewer_operators.specs.declared.here.Here.{Here}
use Rattle.c_fewer_operators.specs.Here.{Stands}
use Rattle.c_fewer_trees.specs.declared.remade.Remade.{Remade}

-- a tree is this one, and what it comes from is judged so
pub record Comes (table : Table) (r : Remade) (e : CExpr) (j : Judged Operand) : Type 0 where
  pub tree : expr_of r.tree ≡ e
  pub judged : IsJudged (IsOperand table) r.judged j

-- from an expression in a scope
abbrev pub ComesFrom : Table → Remade → Scope → CExpr → Type 0
ComesFrom table r s e = Comes table r (fewer s e) (judged s e)

-- parts come from expressions in the scope of a place
abbrev pub OnePart : Table → Here → Remade → Type 0
OnePart table h a = (s : Scope) × (x : CExpr) × Stands table h s × ComesFrom table a s x

abbrev pub TwoParts : Table → Here → Remade → Remade → Type 0
TwoParts table h a b = (s : Scope) × (x : CExpr) × (y : CExpr) × Stands table h s × ComesFrom table a s x × ComesFrom table b s y

abbrev pub ThreeParts : Table → Here → Remade → Remade → Remade → Type 0
ThreeParts table h a b c = (s : Scope) × (x : CExpr) × (y : CExpr) × (z : CExpr) × Stands table h s × ComesFrom table a s x × ComesFrom table b s y × ComesFrom table c s z
