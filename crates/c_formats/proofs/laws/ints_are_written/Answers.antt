use Rattle.c_formats.proofs.DigitsWhole.{ints_are_written as law}
use Rattle.c_formats.proofs.laws.ints_are_written.Goals as goal

pub returns : goal.returns
returns c = law
