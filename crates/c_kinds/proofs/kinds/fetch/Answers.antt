use Rattle.std.proofs.Common.{ap, ◌∙◌}
use Rattle.c_kinds.specs.Sides.{fetch_by}
use Rattle.c_kinds.proofs.SideLemmas.{fetch_is}
use Rattle.c_kinds.proofs.kinds.fetch.Goals as goal

pub returns : goal.returns
returns c = λ t h. c.fetch_by.ensures ∙ (ap fetch_by (c.class_of.ensures t h) ∙ fetch_is t)
