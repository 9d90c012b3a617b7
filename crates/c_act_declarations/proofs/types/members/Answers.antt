use Rattle.std.proofs.Common.{◌∷◌, [], get_or, false, refl, arith}
use Rattle.c_grammar.specs.Grammar.{rhs}
use Rattle.c_held.specs.View.{means}
use Rattle.c_grammar.specs.declared.names.Production.TheVariants as production
use Rattle.c_act_declarations.proofs.Places.{at_parts, five_is, get_or_self, words_at}
use Rattle.c_act_declarations.proofs.types.members.Goals as goal

pub members-requires : goal.members-requires
unfolding rhs
members-requires c = words_at (rhs production.MemberP) c.args.parts.now 0 false c.result-item.result c.requires.stand (omega (arith, c.requires.full)) refl c.result-item.is

pub returns : goal.returns
returns c = at_parts _ production.MemberP c.args.parts.now (c.result-item.result ∷ c.result-item-then-parts-lt6.result ∷ c.result-item-then-parts-lt6-2.result ∷ c.result-item-then-parts-lt6-3.result ∷ (get_or c.args.parts.now 4 c.result-item.result) ∷ []) (five_is c.args.parts.now c.result-item.result c.result-item-then-parts-lt6.result c.result-item-then-parts-lt6-2.result c.result-item-then-parts-lt6-3.result (get_or c.args.parts.now 4 c.result-item.result) c.requires.full c.result-item.is c.result-item-then-parts-lt6.is c.result-item-then-parts-lt6-2.is c.result-item-then-parts-lt6-3.is (get_or_self c.args.parts.now 4 c.result-item.result)) (c.members.ensures (means (get_or c.args.parts.now 4 c.result-item.result)))
