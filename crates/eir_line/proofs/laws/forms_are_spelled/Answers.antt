use Rattle.eir_line.proofs.SoundLines.{line_spelled}
use Rattle.eir_line.proofs.CompleteLines.{line_read}
use Rattle.eir_line.proofs.laws.forms_are_spelled.Goals as goal

pub returns : goal.returns
returns c = λ bytes line. (line_spelled bytes line, line_read bytes line)
