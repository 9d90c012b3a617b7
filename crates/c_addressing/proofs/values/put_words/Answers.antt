use Rattle.std.proofs.Common.{◌≡◌, ℕ, List, ◌++◌, ◌∙◌, ap, refl, sym}
use Rattle.c_addressing.proofs.WordsLemmas.{none_on, some_on}
use Rattle.c_addressing.proofs.values.put_words.Goals as goal

pub returns-then-at_most : goal.returns-then-at_most
returns-then-at_most c = λ n h. none_on c.args.ops.now.items n (sym (c.at_most.ensures n h) ∙ c.if-at_most.true)

pub returns : goal.returns
returns c = λ n h. some_on c.put.result c.args.ops.now.items c.put.new.ops.items c.low.result n (sym (c.at_most.ensures n h) ∙ c.if-at_most.false) (c.low.ensures n h) c.put.ensures
