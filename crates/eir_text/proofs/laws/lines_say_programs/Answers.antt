use Rattle.eir_text.proofs.Said.{said_is_eir}
use Rattle.eir_text.proofs.laws.lines_say_programs.Goals as goal

pub returns : goal.returns
returns c = said_is_eir
