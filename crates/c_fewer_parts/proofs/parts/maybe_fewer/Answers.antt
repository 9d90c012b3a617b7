use Rattle.std.proofs.Common.{Option, Some, sym, ap, ◌∙◌}
use Rattle.std.specs.Prelude.{option_map}
use Rattle.c_syntax.specs.View.{maybe}
use Rattle.c_syntax.specs.declared.tree.Expr.{Expr}
use Rattle.c_helpers.specs.Fewer as fewer
use Rattle.c_fewer_parts.proofs.parts.maybe_fewer.Goals as goal

pub returns-in_ok-made-in-Some-clause-tree : goal.returns-in_ok-made-in-Some-clause-tree
returns-in_ok-made-in-Some-clause-tree c = λ s stands.
    ap Some (c.in_ok-made-in-Some.ensures.made s stands).tree ∙ ap (λ (o : Option Expr). option_map (fewer.fewer s) (maybe o)) (sym c.in-Some.is)

pub returns-in-None-clause-tree : goal.returns-in-None-clause-tree
returns-in-None-clause-tree c = λ s stands.
    ap (λ (o : Option Expr). option_map (fewer.fewer s) (maybe o)) (sym c.in-None.is)
