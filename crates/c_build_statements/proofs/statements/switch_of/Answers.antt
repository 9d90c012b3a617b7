use Rattle.c_build_statements.proofs.Views.{switch_made}
use Rattle.c_build_statements.proofs.statements.switch_of.Goals as goal

pub returns : goal.returns
returns c = switch_made c.args.a (record { items = c.args.items })
