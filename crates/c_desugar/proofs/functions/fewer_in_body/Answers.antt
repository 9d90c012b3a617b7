use Rattle.std.proofs.Common.{Option, Some, sym, ap, ◌∙◌}
use Rattle.std.specs.Prelude.{option_map}
use Rattle.c_syntax.specs.View.{ty_of, decls_of, maybe_stmt}
use Rattle.c_syntax.specs.declared.tree.Stmt.{Stmt}
use Rattle.c_types.specs.Units.{signature}
use Rattle.c_helpers.specs.Fewer as fewer
use Rattle.c_desugar.proofs.functions.fewer_in_body.Goals as goal

pub returns-in_ok-tree-in-Some-clause-tree : goal.returns-in_ok-tree-in-Some-clause-tree
returns-in_ok-tree-in-Some-clause-tree c = λ s stands ok.
    let f = signature s c.args.at (ty_of c.args.gives.now) (decls_of c.args.parameters.now.items.items) in
    ap Some (c.in_ok-tree-in-Some.ensures.tree s stands ok) ∙ ap (λ (o : Option Stmt). option_map (fewer.fewer_in_function s c.args.name.now f) (maybe_stmt o)) (sym c.in-Some.is)

pub returns-in_ok-tree-in-Some-clause-stands : goal.returns-in_ok-tree-in-Some-clause-stands
returns-in_ok-tree-in-Some-clause-stands c = λ s stands. c.in_ok-tree-in-Some.ensures.stands s stands

pub returns-in-None-clause-tree : goal.returns-in-None-clause-tree
returns-in-None-clause-tree c = λ s stands ok.
    let f = signature s c.args.at (ty_of c.args.gives.now) (decls_of c.args.parameters.now.items.items) in
    ap (λ (o : Option Stmt). option_map (fewer.fewer_in_function s c.args.name.now f) (maybe_stmt o)) (sym c.in-None.is)

pub returns-in-None-clause-stands : goal.returns-in-None-clause-stands
returns-in-None-clause-stands c = λ s stands. stands
