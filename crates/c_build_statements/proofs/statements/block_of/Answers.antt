use Rattle.c_build_statements.proofs.Views.{block_made}
use Rattle.c_build_statements.proofs.statements.block_of.Goals as goal

pub returns : goal.returns
returns c = block_made (record { items = c.args.items })
