use Rattle.c_formats.proofs.DigitsWhole.{hex_numbers_are_written as law}
use Rattle.c_formats.proofs.laws.hex_numbers_are_written.Goals as goal

pub returns : goal.returns
returns c = law
