use Rattle.std.proofs.Common.{[], ◌∷◌, ◌++◌, map, ap, ◌∙◌, append_assoc}
use Rattle.eir_text.specs.Spells.{wrapped}
use Rattle.eir_text.proofs.data.push_string.Goals as goal

pub returns-clause-words : goal.returns-clause-words
returns-clause-words c =
    c.in_ok-push.ensures.items
    ∙ (ap (λ w. c.push_bytes.new.words.items ++ w ∷ []) c.wrapped.ensures
    ∙ (ap (λ ws. ws ++ wrapped 0 ∷ []) c.in_ok-push_bytes.ensures.words ∙ append_assoc c.args.words.now.items (map wrapped c.args.bytes.now) (wrapped 0 ∷ [])))
