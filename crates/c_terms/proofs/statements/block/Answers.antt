use Rattle.c_terms.proofs.Rows.{block_made}
use Rattle.c_terms.proofs.statements.block.Goals as goal

pub returns : goal.returns
returns c = block_made (record { items = c.args.items })
