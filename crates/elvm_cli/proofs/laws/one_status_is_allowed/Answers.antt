use Rattle.elvm_cli.proofs.Allowed.{calls_allowed}
use Rattle.elvm_cli.proofs.Alone.{calls_alone}
use Rattle.elvm_cli.proofs.laws.one_status_is_allowed.Goals as goal

pub returns : goal.returns
returns c = record { some = calls_allowed; once = calls_alone }
