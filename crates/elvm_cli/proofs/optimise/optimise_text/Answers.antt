use Rattle.std.proofs.Common.{inr}
use Rattle.elvm_cli.proofs.optimise.optimise_text.Goals as goal

pub returns-in-Ok : goal.returns-in-Ok
returns-in-Ok g c = inr (c.in-Ok.program, c.in-Ok.ensures.ok, c.put_optimised.ensures)
