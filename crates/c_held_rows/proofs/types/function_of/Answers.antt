use Rattle.c_held_rows.proofs.Views.{function_made}
use Rattle.c_held_rows.proofs.types.function_of.Goals as goal

pub returns : goal.returns
returns c = function_made c.args.ty (record { items = c.args.items })
