use Rattle.c_formats.proofs.DigitsWhole.{unsigned_numbers_are_written as law}
use Rattle.c_formats.proofs.laws.unsigned_numbers_are_written.Goals as goal

pub returns : goal.returns
returns c = law
