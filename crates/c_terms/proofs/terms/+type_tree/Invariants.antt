use Rattle.std.proofs.Common.{◌+◌, ◌*◌, max}
use Rattle.c_terms.proofs.terms.+type_tree.Given as goal

abbrev pub decreases-type_tree : goal.decreases-type_tree
decreases-type_tree l = 2 * l.ty

abbrev pub decreases-function_tree : goal.decreases-function_tree
decreases-function_tree l = 2 * (max l.gives l.parameters) + 1

abbrev pub decreases-add_trees : goal.decreases-add_trees
decreases-add_trees l = 2 * l.list
