use Rattle.std.proofs.Common.{◌∷◌, [], get_or}
use Rattle.c_held.specs.View.{means}
use Rattle.c_grammar.specs.declared.names.Production.TheVariants as production
use Rattle.c_act_declarations.proofs.Places.{at_parts, eight_is, get_or_self}
use Rattle.c_act_statements.proofs.statements.for_loop.Goals as goal

pub returns : goal.returns
returns c = at_parts _ production.For c.args.parts.now ((get_or c.args.parts.now 0 c.result-item.result) ∷ (get_or c.args.parts.now 1 c.result-item.result) ∷ c.result-item.result ∷ c.result-item-then-parts-lt9.result ∷ (get_or c.args.parts.now 4 c.result-item.result) ∷ c.result-item-then-parts-lt9-2.result ∷ (get_or c.args.parts.now 6 c.result-item.result) ∷ c.result-item-then-parts-lt9-3.result ∷ []) (eight_is c.args.parts.now (get_or c.args.parts.now 0 c.result-item.result) (get_or c.args.parts.now 1 c.result-item.result) c.result-item.result c.result-item-then-parts-lt9.result (get_or c.args.parts.now 4 c.result-item.result) c.result-item-then-parts-lt9-2.result (get_or c.args.parts.now 6 c.result-item.result) c.result-item-then-parts-lt9-3.result c.requires (get_or_self c.args.parts.now 0 c.result-item.result) (get_or_self c.args.parts.now 1 c.result-item.result) c.result-item.is c.result-item-then-parts-lt9.is (get_or_self c.args.parts.now 4 c.result-item.result) c.result-item-then-parts-lt9-2.is (get_or_self c.args.parts.now 6 c.result-item.result) c.result-item-then-parts-lt9-3.is) (c.for_loop.ensures (means (get_or c.args.parts.now 0 c.result-item.result)) (means (get_or c.args.parts.now 1 c.result-item.result)) (means (get_or c.args.parts.now 4 c.result-item.result)) (means (get_or c.args.parts.now 6 c.result-item.result)))
