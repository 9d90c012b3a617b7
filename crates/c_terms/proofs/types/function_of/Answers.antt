use Rattle.c_terms.proofs.Rows.{function_made}
use Rattle.c_terms.proofs.types.function_of.Goals as goal

pub returns : goal.returns
returns c = function_made c.args.ty (record { items = c.args.items })
