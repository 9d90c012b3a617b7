use Rattle.std.proofs.Common.{◌∙◌}
use Rattle.piet_image.proofs.write.number.Goals as goal

pub returns : goal.returns
returns c = c.as_bytes.ensures.value ∙ c.format.ensures.text
