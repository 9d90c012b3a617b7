use Rattle.std.proofs.Common.{◌∷◌, [], get_or}
use Rattle.c_held.specs.View.{means}
use Rattle.c_grammar.specs.declared.names.Production.TheVariants as production
use Rattle.c_act_declarations.proofs.Places.{at_parts, get_or_self, three_is}
use Rattle.c_act_statements.proofs.statements.block.Goals as goal

pub returns : goal.returns
returns c = at_parts _ production.Block c.args.parts.now ((get_or c.args.parts.now 0 c.index-parts-1.result) ∷ (get_or c.args.parts.now 1 c.index-parts-1.result) ∷ (get_or c.args.parts.now 2 c.index-parts-1.result) ∷ []) (three_is c.args.parts.now (get_or c.args.parts.now 0 c.index-parts-1.result) (get_or c.args.parts.now 1 c.index-parts-1.result) (get_or c.args.parts.now 2 c.index-parts-1.result) c.requires (get_or_self c.args.parts.now 0 c.index-parts-1.result) (get_or_self c.args.parts.now 1 c.index-parts-1.result) (get_or_self c.args.parts.now 2 c.index-parts-1.result)) (c.block.ensures (means (get_or c.args.parts.now 0 c.index-parts-1.result)) (means (get_or c.args.parts.now 2 c.index-parts-1.result)))
