use Rattle.std.proofs.Common.{inr}
use Rattle.elvm_cli.proofs.emit.emit_text_sharply.Goals as goal

pub returns-in-Ok : goal.returns-in-Ok
returns-in-Ok g c = inr (c.in-Ok.program, c.in-Ok.ensures.ok, c.emit_program_sharply.ensures)
