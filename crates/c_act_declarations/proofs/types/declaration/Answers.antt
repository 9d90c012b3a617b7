use Rattle.std.proofs.Common.{◌∷◌, [], get_or, false, refl, arith}
use Rattle.c_grammar.specs.Grammar.{rhs}
use Rattle.c_held.specs.View.{means}
use Rattle.c_grammar.specs.declared.names.Production.TheVariants as production
use Rattle.c_act_declarations.proofs.Places.{at_parts, get_or_self, six_is, words_at}
use Rattle.c_act_declarations.proofs.types.declaration.Goals as goal

pub declaration-requires : goal.declaration-requires
unfolding rhs
declaration-requires c = words_at (rhs production.Declaration) c.args.parts.now 0 false c.result-item.result c.requires.stand (omega (arith, c.requires.full)) refl c.result-item.is

pub returns : goal.returns
returns c = at_parts _ production.Declaration c.args.parts.now (c.result-item.result ∷ c.result-item-then-parts-lt7.result ∷ c.result-item-then-parts-lt7-2.result ∷ c.result-item-then-parts-lt7-3.result ∷ c.result-item-then-parts-lt7-4.result ∷ (get_or c.args.parts.now 5 c.result-item.result) ∷ []) (six_is c.args.parts.now c.result-item.result c.result-item-then-parts-lt7.result c.result-item-then-parts-lt7-2.result c.result-item-then-parts-lt7-3.result c.result-item-then-parts-lt7-4.result (get_or c.args.parts.now 5 c.result-item.result) c.requires.full c.result-item.is c.result-item-then-parts-lt7.is c.result-item-then-parts-lt7-2.is c.result-item-then-parts-lt7-3.is c.result-item-then-parts-lt7-4.is (get_or_self c.args.parts.now 5 c.result-item.result)) (c.declaration.ensures (means (get_or c.args.parts.now 5 c.result-item.result)))
