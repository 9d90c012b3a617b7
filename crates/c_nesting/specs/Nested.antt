-- What a parser counts, as the grammar has it.
use Rattle.std.specs.Prelude.{ℕ, zero, suc, Bool}
use Rattle.c_grammar.specs.Nesting as nesting
use Rattle.c_grammar.specs.Nesting.{Context, is_operator, goes_on}
use Rattle.c_grammar.specs.declared.names.Production.{Production}
use Rattle.c_nesting.specs.declared.counts.Counted.{Counted}
use Rattle.c_nesting.specs.declared.counts.Count.{Count}
use Rattle.c_nesting.specs.declared.counts.Count.TheVariants as count
use Rattle.c_nesting.specs.declared.counts.Hand.{Hand}
use Rattle.c_nesting.specs.declared.counts.Hand.TheVariants as hand

abbrev pub context_of : Counted → Context
context_of c = record { rest = c.rest; declarator = c.declarator; cast = c.cast }

abbrev pub count_of : Count → nesting.Count
count_of count.Same = nesting.Same
count_of count.None = nesting.None'
count_of count.One = nesting.One'
count_of count.Two = nesting.Two'
count_of count.Sized = nesting.Sized
count_of count.Inner = nesting.Inner
count_of count.Close = nesting.Close
count_of count.CloseType = nesting.CloseType

abbrev pub hand_of : Hand → nesting.Hand
hand_of hand.Stay = nesting.Stay
hand_of hand.More = nesting.More
hand_of hand.Ended = nesting.Ended
hand_of hand.Within = nesting.Within

-- whether the operators of the part at a place count behind it
abbrev pub carries_at : Production → ℕ → Bool
carries_at p zero = is_operator p
carries_at p (suc n) = goes_on p
