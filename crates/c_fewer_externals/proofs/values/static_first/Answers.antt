use Rattle.std.proofs.Common.{Option, Some, sym, ap, ◌∙◌}
use Rattle.std.specs.Prelude.{option_map}
use Rattle.c_syntax.specs.View.{maybe_value}
use Rattle.c_syntax.specs.declared.tree.Value.{Value}
use Rattle.c_helpers.specs.Fewer as fewer
use Rattle.c_fewer_externals.proofs.values.static_first.Goals as goal

pub returns-in_ok-tree-in-Some-clause-tree : goal.returns-in_ok-tree-in-Some-clause-tree
returns-in_ok-tree-in-Some-clause-tree c = λ s stands.
    ap Some (c.in_ok-tree-in-Some.ensures.tree s stands) ∙ ap (λ (o : Option Value). option_map (fewer.with_values (fewer.static_tree s)) (maybe_value o)) (sym c.in-Some.is)

pub returns-in-None-clause-tree : goal.returns-in-None-clause-tree
returns-in-None-clause-tree c = λ s stands.
    ap (λ (o : Option Value). option_map (fewer.with_values (fewer.static_tree s)) (maybe_value o)) (sym c.in-None.is)
