use Rattle.std.proofs.Common.{◌∙◌}
use Rattle.c_kept.proofs.KeptLemmas.{any_text}
use Rattle.c_kept.proofs.keep.has_name.Goals as goal

pub returns : goal.returns
returns c = c.contains.ensures ∙ any_text c.args.known.now.keys c.args.name.now
