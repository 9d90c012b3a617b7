use Rattle.std.proofs.Common.{sym, subst}
use Rattle.std.specs.Prelude.{Option, IfOk}
use Rattle.c_syntax.specs.Plain as tree
use Rattle.c_syntax.specs.View.{ty_of, decls_of, maybe_stmt}
use Rattle.c_syntax.specs.declared.tree.Stmt.{Stmt}
use Rattle.c_eval.specs.Text.{item_definitions}
use Rattle.c_fitting.specs.Blocks.{ItemDeclaresInBlocks}
use Rattle.c_applied.proofs.LeadsLemmas.{keeps_none}
use Rattle.c_lower.specs.Walk.{Passes}
use Rattle.c_lower.proofs.WalkLemmas.{no_body}
use Rattle.c_lower.proofs.functions.add_body.Goals as goal

pub returns-in-Some-clause-adds : goal.returns-in-Some-clause-adds
returns-in-Some-clause-adds c = λ w names s is blocks.
    let name = c.args.name.now in
    let at = c.args.at in
    let gives = ty_of c.args.gives.now in
    let params = decls_of c.args.parameters.now.items.items in
    let there = subst (λ (o : Option Stmt). ItemDeclaresInBlocks (tree.Function name at gives params (maybe_stmt o))) c.in-Some.is blocks in
    subst (λ (o : Option Stmt). IfOk c.add_definition.result (λ told. Passes c.add_definition.new.here c.args.structs.now c.args.out.now c.add_definition.new.out c.args.placed.now w names c.args.k told s (item_definitions s (tree.Function name at gives params (maybe_stmt o))))) (sym c.in-Some.is)
    (c.add_definition.ensures.adds w names s is there.0)

pub returns-in-None-clause-keeps : goal.returns-in-None-clause-keeps
returns-in-None-clause-keeps c = keeps_none c.args.out.now

pub returns-in-None-clause-adds : goal.returns-in-None-clause-adds
returns-in-None-clause-adds c = λ w names s is blocks.
    no_body c.args.here.now c.args.structs.now c.args.out.now c.args.placed.now w names c.args.k s c.args.name.now c.args.at (ty_of c.args.gives.now) (decls_of c.args.parameters.now.items.items) c.args.body.now c.in-None.is is
