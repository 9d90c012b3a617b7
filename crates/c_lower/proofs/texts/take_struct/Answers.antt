use Rattle.c_syntax.specs.View.{tag_of}
use Rattle.c_types.specs.Declarations.{scope_or, tag_declared}
use Rattle.c_lower.proofs.TextLemmas.{none_added}
use Rattle.c_lower.proofs.texts.take_struct.Goals as goal

pub returns-clause-some : goal.returns-clause-some
returns-clause-some c =
    let h = c.requires.holds in
    (scope_or h.0 (tag_declared h.0 (tag_of c.args.tag.now)), c.in_ok-declare_tag.ensures.holds h.0 h.1)

pub returns-clause-passes : goal.returns-clause-passes
returns-clause-passes c = λ here holds. record { holds = c.in_ok-declare_tag.ensures.holds here.scope holds; adds = none_added c.args.texts.now.items }
