use Rattle.std.proofs.Common.{◌∷◌, [], get_or, refl, arith}
use Rattle.c_grammar.specs.Grammar.{rhs}
use Rattle.c_grammar.specs.declared.names.Part.TheVariants.{Expr}
use Rattle.c_grammar.specs.Tree.{act}
use Rattle.c_grammar.specs.declared.names.Production.TheVariants as production
use Rattle.c_act_declarations.proofs.Places.{at_value, get_or_self, one_at, two_is}
use Rattle.c_act.proofs.expressions.expression_inside.Goals as goal

pub passed-requires : goal.passed-requires
unfolding rhs
passed-requires c = one_at (rhs production.ExprInside) c.args.parts.now 0 (Expr 0) (get_or c.args.parts.now 0 c.index-parts-0.result) c.requires.stand (omega (arith, c.requires.full)) refl (get_or_self c.args.parts.now 0 c.index-parts-0.result)

pub returns : goal.returns
unfolding act
returns c = at_value _ production.ExprInside c.args.parts.now ((get_or c.args.parts.now 0 c.index-parts-0.result) ∷ (get_or c.args.parts.now 1 c.index-parts-0.result) ∷ []) (two_is c.args.parts.now (get_or c.args.parts.now 0 c.index-parts-0.result) (get_or c.args.parts.now 1 c.index-parts-0.result) c.requires.full (get_or_self c.args.parts.now 0 c.index-parts-0.result) (get_or_self c.args.parts.now 1 c.index-parts-0.result)) (c.passed.ensures)
