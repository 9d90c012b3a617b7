use Rattle.std.proofs.Common.{refl, arith}
use Rattle.c_grammar.specs.Grammar.{rhs}
use Rattle.c_grammar.specs.declared.names.Production.TheVariants as production
use Rattle.c_act_declarations.proofs.Places.{words_at}
use Rattle.c_act_declarations.proofs.types.const_words.Goals as goal

pub const_words-requires : goal.const_words-requires
unfolding rhs
const_words-requires c = words_at (rhs (production.ConstSpec c.args.external)) c.args.parts.now 1 c.args.external c.result-item-then-parts-lt3.result c.requires.stand (omega (arith, c.requires.full)) refl c.result-item-then-parts-lt3.is
