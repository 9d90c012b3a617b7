use Rattle.c_syntax.specs.View.{tag_of}
use Rattle.c_types.specs.Declarations.{scope_or, tag_declared}
use Rattle.c_desugar.proofs.items.pass_struct.Goals as goal

pub returns-clause-some : goal.returns-clause-some
returns-clause-some c =
    let h = c.requires.stands in
    (scope_or h.0 (tag_declared h.0 (tag_of c.args.tag.now)), c.in_ok-made.ensures.stands h.0 h.1)

pub returns-clause-passed : goal.returns-clause-passed
returns-clause-passed c = λ s stands ok. record { is = c.in_ok-made.ensures.tree s stands; stands = c.in_ok-made.ensures.stands s stands }
