use Rattle.std.proofs.Common.{◌∙◌}
use Rattle.c_addressing.proofs.DirectLemmas.{low_number}
use Rattle.c_lower_bases.proofs.bases.low.Goals as goal

pub returns : goal.returns
returns c = low_number c.get.result c.args.count (c.get.ensures.value ∙ c.wrap.ensures)
