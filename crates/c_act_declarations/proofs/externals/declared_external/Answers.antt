use Rattle.std.proofs.Common.{true, refl, arith}
use Rattle.c_grammar.specs.Grammar.{rhs}
use Rattle.c_grammar.specs.declared.names.Production.TheVariants as production
use Rattle.c_act_declarations.proofs.Places.{words_at}
use Rattle.c_act_declarations.proofs.externals.declared_external.Goals as goal

pub declared_external-requires : goal.declared_external-requires
unfolding rhs
declared_external-requires c = words_at (rhs production.DeclaredP) c.args.parts.now 0 true c.result-item.result c.requires.stand (omega (arith, c.requires.full)) refl c.result-item.is
