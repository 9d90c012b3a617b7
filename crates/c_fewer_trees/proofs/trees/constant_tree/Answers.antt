use Rattle.c_syntax.specs.View.{expr_of}
use Rattle.c_types.specs.Expressions.{judged}
use Rattle.c_fewer_trees.proofs.OnwardLemmas.{some_fits}
use Rattle.c_fewer_trees.proofs.trees.constant_tree.Goals as goal

pub judge-requires : goal.judge-requires
judge-requires c =
    some_fits c.requires

pub value_tree-tree-requires : goal.value_tree-tree-requires
value_tree-tree-requires c =
    (judged c.requires.0 (expr_of c.args.e.now), c.in_ok-judged.ensures.judged c.requires.0 c.requires.1.fits)

pub returns-clause-made : goal.returns-clause-made
returns-clause-made c = λ s stands.
    let h = c.in_ok-judged.ensures.judged s stands.fits in
    record { tree = c.value_tree-tree.ensures (judged s (expr_of c.args.e.now)) h; judged = h }
