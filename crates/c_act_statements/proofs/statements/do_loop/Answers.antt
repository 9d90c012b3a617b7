use Rattle.std.proofs.Common.{◌∷◌, [], get_or}
use Rattle.c_held.specs.View.{means}
use Rattle.c_grammar.specs.declared.names.Production.TheVariants as production
use Rattle.c_act_declarations.proofs.Places.{at_parts, get_or_self, seven_is}
use Rattle.c_act_statements.proofs.statements.do_loop.Goals as goal

pub returns : goal.returns
returns c = at_parts _ production.Do c.args.parts.now ((get_or c.args.parts.now 0 c.result-item.result) ∷ c.result-item.result ∷ (get_or c.args.parts.now 2 c.result-item.result) ∷ (get_or c.args.parts.now 3 c.result-item.result) ∷ c.result-item-then-parts-lt8.result ∷ (get_or c.args.parts.now 5 c.result-item.result) ∷ (get_or c.args.parts.now 6 c.result-item.result) ∷ []) (seven_is c.args.parts.now (get_or c.args.parts.now 0 c.result-item.result) c.result-item.result (get_or c.args.parts.now 2 c.result-item.result) (get_or c.args.parts.now 3 c.result-item.result) c.result-item-then-parts-lt8.result (get_or c.args.parts.now 5 c.result-item.result) (get_or c.args.parts.now 6 c.result-item.result) c.requires (get_or_self c.args.parts.now 0 c.result-item.result) c.result-item.is (get_or_self c.args.parts.now 2 c.result-item.result) (get_or_self c.args.parts.now 3 c.result-item.result) c.result-item-then-parts-lt8.is (get_or_self c.args.parts.now 5 c.result-item.result) (get_or_self c.args.parts.now 6 c.result-item.result)) (c.do_loop.ensures (means (get_or c.args.parts.now 0 c.result-item.result)) (means (get_or c.args.parts.now 2 c.result-item.result)) (means (get_or c.args.parts.now 3 c.result-item.result)) (means (get_or c.args.parts.now 5 c.result-item.result)) (means (get_or c.args.parts.now 6 c.result-item.result)))
