use Rattle.std.proofs.Common.{[], ◌∷◌, ◌++◌, ap, ◌∙◌}
use Rattle.word24.specs.declared.word.Word.{Word}
use Rattle.c_lowered.specs.Operations.{wrapped}
use Rattle.c_lower_data.proofs.LetterLemmas.{told_word}
use Rattle.c_lower_data.proofs.words.add_number.Goals as goal

pub returns : goal.returns
returns c = λ n h. c.in_ok-push.ensures.items ∙ ap (λ (w : Word). c.args.words.now.items ++ w ∷ []) (c.word.ensures ∙ (ap wrapped c.from.ensures ∙ told_word c.args.number n h))
