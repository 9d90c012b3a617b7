use Rattle.std.proofs.Common.{ap, ◌∙◌}
use Rattle.c_kinds.specs.Sides.{kind_by}
use Rattle.c_kinds.proofs.SideLemmas.{kind_is}
use Rattle.c_kinds.proofs.kinds.kind.Goals as goal

pub returns : goal.returns
returns c = λ t h. c.kind_by.ensures ∙ (ap kind_by (c.class_of.ensures t h) ∙ kind_is t)
