use Rattle.c_syntax.proofs.LongestMarks.{marks_are_longest}
use Rattle.c_syntax.proofs.laws.marks_are_longest.Goals as goal

pub returns : goal.returns
returns c = marks_are_longest
