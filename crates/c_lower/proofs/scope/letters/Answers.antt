use Rattle.std.proofs.Common.{List, ◌++◌, ap, ◌∙◌}
use Rattle.std.specs.List.{flat_map}
use Rattle.word24.specs.declared.word.Word.{Word}
use Rattle.c_types.specs.Table.{texts}
use Rattle.c_lowered.specs.Whole.{letter_words, words_from}
use Rattle.c_lower.proofs.WordLemmas.{words_then}
use Rattle.c_lower.proofs.scope.letters.Goals as goal

pub returns : goal.returns
returns c =
    let file = flat_map letter_words (texts c.args.file.now) in
    let bodies = flat_map letter_words (texts c.args.bodies.now) in
    words_then c.new-words.result.items c.add_letters.new.words.items c.add_letters-2.new.words.items file bodies c.in_ok-add_letters.ensures c.in_ok-add_letters-2.ensures
    ∙ ap (λ (l : List Word). l ++ words_from (file ++ bodies)) c.new-words.ensures.items
