use Rattle.std.proofs.Common.{◌∷◌, [], get_or}
use Rattle.c_held.specs.View.{means}
use Rattle.c_grammar.specs.declared.names.Production.TheVariants as production
use Rattle.c_act_declarations.proofs.Places.{at_parts, five_is, get_or_self}
use Rattle.c_act_declarations.proofs.types.params.Goals as goal

pub returns : goal.returns
returns c = at_parts _ production.Params c.args.parts.now (c.result-item.result ∷ c.result-item-then-parts-lt6.result ∷ c.result-item-then-parts-lt6-2.result ∷ c.result-item-then-parts-lt6-3.result ∷ (get_or c.args.parts.now 4 c.result-item.result) ∷ []) (five_is c.args.parts.now c.result-item.result c.result-item-then-parts-lt6.result c.result-item-then-parts-lt6-2.result c.result-item-then-parts-lt6-3.result (get_or c.args.parts.now 4 c.result-item.result) c.requires c.result-item.is c.result-item-then-parts-lt6.is c.result-item-then-parts-lt6-2.is c.result-item-then-parts-lt6-3.is (get_or_self c.args.parts.now 4 c.result-item.result)) (c.params.ensures (means (get_or c.args.parts.now 4 c.result-item.result)))
