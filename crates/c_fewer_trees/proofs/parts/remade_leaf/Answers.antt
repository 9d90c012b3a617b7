use Rattle.c_types.specs.Expressions.{judged}
use Rattle.c_fewer_trees.proofs.OnwardLemmas.{some_fits}
use Rattle.c_fewer_trees.proofs.parts.remade_leaf.Goals as goal

pub judge-requires : goal.judge-requires
judge-requires c =
    some_fits c.requires

pub returns-clause-made : goal.returns-clause-made
returns-clause-made c = λ s stands same.
    record { tree = same; judged = c.in_ok-judged.ensures.judged s stands.fits }
