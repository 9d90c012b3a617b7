use Rattle.c_tree_names.proofs.AddedLemmas.{one_added}
use Rattle.c_tree_names.proofs.expressions.add_name.Goals as goal

pub returns : goal.returns
returns c = one_added c.args.names.now.items c.push.new.self.items c.args.name c.in_ok-push.ensures.items
