use Rattle.std.proofs.Common.{◌≡◌, Option, None, sym, ap, subst, ◌∙◌}
use Rattle.std.specs.Prelude.{IfOk}
use Rattle.c_syntax.specs.Plain as plain
use Rattle.c_syntax.specs.Plain.{CExpr}
use Rattle.c_syntax.specs.View.{expr_of}
use Rattle.c_syntax.specs.declared.tree.BinOp.{BinOp}
use Rattle.c_helpers.specs.Fewer as fewer
use Rattle.c_fewer_operators.proofs.TreeLemmas.{made}
use Rattle.c_fewer_trees.proofs.trees.assign_tree.Goals as goal

pub compound_tree-requires : goal.compound_tree-requires
compound_tree-requires c =
    c.requires

pub returns-in-Some-clause-tree : goal.returns-in-Some-clause-tree
returns-in-Some-clause-tree c = λ s x y stands first second.
    subst (λ (o : Option BinOp). IfOk c.compound_tree.result (λ e. expr_of e ≡ fewer.fewer s (plain.Assign c.args.at o x y))) (sym c.in-Some.is) (c.compound_tree.ensures.tree s x y stands first second)

pub returns-in-None-clause-tree : goal.returns-in-None-clause-tree
returns-in-None-clause-tree c = λ s x y stands first second.
    let at = c.args.at in
    made c.assign.result (plain.Assign at None (expr_of c.args.a.tree) (expr_of c.args.b.tree)) (fewer.fewer s (plain.Assign at c.args.op x y))
    (ap (λ (e : CExpr). plain.Assign at None e (expr_of c.args.b.tree)) first.tree ∙ (ap (plain.Assign at None (fewer.fewer s x)) second.tree
    ∙ ap (λ (o : Option BinOp). fewer.fewer s (plain.Assign at o x y)) (sym c.in-None.is))) c.assign.ensures
