use Rattle.std.proofs.Common.{List, [], ◌∷◌, ◌++◌, ap, ◌∙◌}
use Rattle.word24.specs.declared.word.Word.{Word}
use Rattle.c_lower.proofs.scope.null_word.Goals as goal

pub returns : goal.returns
returns c = c.in_ok-push.ensures.items ∙ (ap (λ (l : List Word). l ++ c.null.result ∷ []) c.new-words.ensures.items ∙ ap (λ (w : Word). w ∷ []) c.null.ensures)
