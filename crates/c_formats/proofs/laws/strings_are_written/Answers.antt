use Rattle.c_formats.proofs.StringsCalls.{strings_are_written as law}
use Rattle.c_formats.proofs.laws.strings_are_written.Goals as goal

pub returns : goal.returns
returns c = law
