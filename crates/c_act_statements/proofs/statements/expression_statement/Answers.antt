use Rattle.std.proofs.Common.{◌∷◌, [], get_or}
use Rattle.c_held.specs.View.{means}
use Rattle.c_grammar.specs.declared.names.Production.TheVariants as production
use Rattle.c_act_declarations.proofs.Places.{at_value, get_or_self, two_is}
use Rattle.c_act_statements.proofs.statements.expression_statement.Goals as goal

pub returns : goal.returns
returns c = at_value _ production.ExprStatement c.args.parts.now ((get_or c.args.parts.now 0 c.index-parts-0.result) ∷ (get_or c.args.parts.now 1 c.index-parts-0.result) ∷ []) (two_is c.args.parts.now (get_or c.args.parts.now 0 c.index-parts-0.result) (get_or c.args.parts.now 1 c.index-parts-0.result) c.requires (get_or_self c.args.parts.now 0 c.index-parts-0.result) (get_or_self c.args.parts.now 1 c.index-parts-0.result)) (c.expression_statement.ensures (means (get_or c.args.parts.now 1 c.index-parts-0.result)))
