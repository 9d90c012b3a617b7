use Rattle.c_fewer_trees.proofs.PartLemmas.{none_behind, others_behind}
use Rattle.c_fewer_expressions.proofs.calls.behind_first.Goals as goal

pub returns-then-is_empty : goal.returns-then-is_empty
returns-then-is_empty c =
    none_behind c.args.arguments.items c.args.arguments.len c.is_empty.result c.args.arguments.ok.0 c.is_empty.ensures c.if-is_empty.true

pub returns-else-is_empty : goal.returns-else-is_empty
returns-else-is_empty c =
    others_behind c.args.arguments.items c.remove-format.new.self.items c.args.arguments.len c.is_empty.result c.args.arguments.ok.0 c.is_empty.ensures c.if-is_empty.false c.remove-format.ensures.by_index.2
