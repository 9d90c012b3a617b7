use Rattle.std.proofs.Common.{List, map, subst}
use Rattle.word24.specs.declared.word.Word.{Word}
use Rattle.c_syntax.specs.View.{item_of}
use Rattle.c_lower.specs.Words.{PassesAll}
use Rattle.c_lower.proofs.scope.object_words.Goals as goal

pub add_words-requires-clause-holds : goal.add_words-requires-clause-holds
add_words-requires-clause-holds c = c.requires.holds

pub add_words-requires-clause-numbered : goal.add_words-requires-clause-numbered
add_words-requires-clause-numbered c = c.requires.numbered

pub returns : goal.returns
returns c = λ w env end is typed.
    let values = c.add_words.new.words.items in
    record {
      values = values;
      passes = subst (λ (l : List Word). PassesAll c.add_words.new.here c.add_words.new.out w env (map item_of c.args.items.now) l values) c.in_ok-words.ensures (c.in_ok-add_words.ensures w env end is typed);
      words_are = c.in_ok-extend_from_slice.ensures.items;
    }
