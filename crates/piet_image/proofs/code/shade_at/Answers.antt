use Rattle.std.proofs.Common.{refl}
use Rattle.piet_image.specs.Colours.{shades}
use Rattle.piet_image.proofs.code.shade_at.Goals as goal

pub returns-clause-place : goal.returns-clause-place
unfolding shades
returns-clause-place c = c.place_in.ensures.place
