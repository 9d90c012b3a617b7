use Rattle.std.proofs.Common.{ap, ◌∙◌}
use Rattle.c_tree_names.specs.Added.{texts}
use Rattle.c_tree_names.proofs.SetLemmas.{key_put}
use Rattle.c_tree_names.proofs.sets.put_name.Goals as goal

pub returns : goal.returns
returns c = ap texts c.in_ok-insert.ensures.keys ∙ key_put c.args.names.now.keys c.args.name
