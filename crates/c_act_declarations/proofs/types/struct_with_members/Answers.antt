use Rattle.std.proofs.Common.{◌∷◌, [], get_or, true}
use Rattle.c_held.specs.View.{means}
use Rattle.c_grammar.specs.declared.names.Production.TheVariants as production
use Rattle.c_act_declarations.proofs.Places.{at_parts, four_is, get_or_self}
use Rattle.c_act_declarations.proofs.types.struct_with_members.Goals as goal

pub returns-clause-gives : goal.returns-clause-gives
returns-clause-gives c = at_parts _ (production.StructSpec true) c.args.parts.now (c.result-item.result ∷ c.result-item-then-parts-lt5.result ∷ c.result-item-then-parts-lt5-2.result ∷ (get_or c.args.parts.now 3 c.result-item.result) ∷ []) (four_is c.args.parts.now c.result-item.result c.result-item-then-parts-lt5.result c.result-item-then-parts-lt5-2.result (get_or c.args.parts.now 3 c.result-item.result) c.requires c.result-item.is c.result-item-then-parts-lt5.is c.result-item-then-parts-lt5-2.is (get_or_self c.args.parts.now 3 c.result-item.result)) (c.struct_with_members.ensures.gives true (means (get_or c.args.parts.now 3 c.result-item.result)))
