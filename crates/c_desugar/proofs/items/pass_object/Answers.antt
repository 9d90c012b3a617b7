use Rattle.std.proofs.Common.{ap}
use Rattle.c_syntax.specs.Plain as tree
use Rattle.c_syntax.specs.View.{decl_of}
use Rattle.c_types.specs.Declarations.{scope_or}
use Rattle.c_types.specs.Units.{item_judged}
use Rattle.c_desugar.proofs.items.pass_object.Goals as goal

pub returns-clause-some : goal.returns-clause-some
returns-clause-some c =
    let h = c.requires in
    (scope_or h.0 (item_judged h.0 (tree.Object (decl_of c.args.d.now))), c.in_ok-made.ensures.stands h.0 h.1)

pub returns-clause-passed : goal.returns-clause-passed
returns-clause-passed c = λ s stands ok. record { is = ap tree.Object (c.in_ok-made.ensures.tree s stands); stands = c.in_ok-made.ensures.stands s stands }
