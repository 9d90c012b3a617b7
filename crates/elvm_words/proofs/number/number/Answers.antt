use Rattle.std.proofs.Common.{sym}
use Rattle.elvm_words.proofs.NumberLemmas.{number_in-large}
use Rattle.elvm_words.proofs.number.number.Goals as goal

pub returns-in-Err-clause-value : goal.returns-in-Err-clause-value
returns-in-Err-clause-value c = number_in-large c.args.most c.args.low c.args.high c.args.text.now (sym c.if-not-has_digits.ensures) c.ranges.high.fits c.in-Err.ensures.value.0
