use Rattle.std.proofs.Common.{sym, ◌∙◌}
use Rattle.c_syntax.specs.View.{expr_of}
use Rattle.c_helpers.specs.Fewer as fewer
use Rattle.c_fewer_externals.proofs.StaticLemmas.{it_stays, it_is_constant, made_as}
use Rattle.c_fewer_externals.proofs.values.static_tree.Goals as goal

pub returns-then-stays-clause-tree : goal.returns-then-stays-clause-tree
returns-then-stays-clause-tree c = λ s stands.
    let e = expr_of c.args.e.now in
    made_as c.copied.result e (fewer.static_tree s e) (it_stays s e (sym c.stays.ensures ∙ c.if-stays.true)) c.copied.ensures

pub returns-in_ok-made-clause-tree : goal.returns-in_ok-made-clause-tree
returns-in_ok-made-clause-tree c = λ s stands.
    (c.in_ok-made.ensures.made s stands).tree ∙ it_is_constant s (expr_of c.args.e.now) (sym c.stays.ensures ∙ c.if-stays.false)
