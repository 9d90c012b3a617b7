use Rattle.c_statements.proofs.TreeLemmas.{switch_made}
use Rattle.c_fewer_parts.proofs.parts.selection.Goals as goal

pub returns : goal.returns
returns c =
    switch_made c.args.e (record { items = c.args.items })
