use Rattle.c_declare.proofs.Views.{braces_made}
use Rattle.c_declare.proofs.declarations.many.Goals as goal

pub returns : goal.returns
returns c = braces_made (record { items = c.args.items })
