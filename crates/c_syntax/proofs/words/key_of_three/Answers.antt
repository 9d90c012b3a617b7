use Rattle.std.proofs.Common.{length, ap, ◌∙◌}
use Rattle.std.specs.Prelude.{◌==◌}
use Rattle.c_syntax.proofs.Spelled.{among_keys}
use Rattle.c_syntax.proofs.words.key_of_three.Goals as goal

pub returns : goal.returns
returns c = c.meaning.ensures ∙ among_keys (λ w. length w == 3) c.args.word.now (ap (λ n. n == 3) c.requires)
