use Rattle.std.proofs.Common.{◌≡◌, ◌++◌, subst}
use Rattle.std.specs.Prelude.{Option, Ok}
use Rattle.c_syntax.specs.Plain as tree
use Rattle.c_syntax.specs.View.{ty_of, decls_of, maybe_stmt}
use Rattle.c_syntax.specs.declared.tree.Stmt.{Stmt}
use Rattle.c_types.specs.Units.{item_judged}
use Rattle.c_eval.specs.Text.{item_definitions}
use Rattle.c_lower_data.specs.Entries.{AreEntered}
use Rattle.c_lower_data.proofs.blocks.add_body.Goals as goal

pub returns-in-Some : goal.returns-in-Some
returns-in-Some c = λ s inner all rest typed are.
    let name = c.args.name.now in
    let at = c.args.at in
    let gives = ty_of c.args.gives.now in
    let params = decls_of c.args.parameters.now.items.items in
    c.add_definition.ensures s inner all rest (subst (λ (o : Option Stmt). item_judged s (tree.Function name at gives params (maybe_stmt o)) ≡ Ok inner) c.in-Some.is typed)
    (subst (λ (o : Option Stmt). AreEntered c.args.entries.now.entries c.args.block all (item_definitions s (tree.Function name at gives params (maybe_stmt o)) ++ rest)) c.in-Some.is are)

pub returns-in-None : goal.returns-in-None
returns-in-None c = λ s inner all rest typed are.
    subst (λ (o : Option Stmt). AreEntered c.args.entries.now.entries c.args.block all (item_definitions s (tree.Function c.args.name.now c.args.at (ty_of c.args.gives.now) (decls_of c.args.parameters.now.items.items) (maybe_stmt o)) ++ rest)) c.in-None.is are
