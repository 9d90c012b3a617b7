use Rattle.std.proofs.Common.{length, ap, ◌∙◌}
use Rattle.std.specs.Prelude.{not}
use Rattle.c_syntax.specs.Words.{is_usual}
use Rattle.c_syntax.proofs.Spelled.{among_keys}
use Rattle.c_syntax.proofs.words.key_of_more.Goals as goal

pub returns : goal.returns
returns c = c.meaning.ensures ∙ among_keys (λ w. not (is_usual (length w))) c.args.word.now (ap not c.requires)
