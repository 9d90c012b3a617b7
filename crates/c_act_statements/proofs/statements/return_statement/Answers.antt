use Rattle.std.proofs.Common.{◌∷◌, [], get_or}
use Rattle.c_held.specs.View.{means}
use Rattle.c_grammar.specs.declared.names.Production.TheVariants as production
use Rattle.c_act_declarations.proofs.Places.{at_value, get_or_self, three_is}
use Rattle.c_act_statements.proofs.statements.return_statement.Goals as goal

pub returns : goal.returns
returns c = at_value _ production.Return c.args.parts.now (c.result-item.result ∷ c.result-item-then-parts-lt4.result ∷ (get_or c.args.parts.now 2 c.result-item.result) ∷ []) (three_is c.args.parts.now c.result-item.result c.result-item-then-parts-lt4.result (get_or c.args.parts.now 2 c.result-item.result) c.requires c.result-item.is c.result-item-then-parts-lt4.is (get_or_self c.args.parts.now 2 c.result-item.result)) (c.return_statement.ensures (means (get_or c.args.parts.now 2 c.result-item.result)))
