use Rattle.std.proofs.Common.{sym, ap, ◌∙◌}
use Rattle.piet_image.specs.Colours.{shades, rgb_of}
use Rattle.piet_image.proofs.code.levels.Goals as goal

pub returns-in-Hue : goal.returns-in-Hue
unfolding shades
returns-in-Hue c = c.shade_in.ensures ∙ ap rgb_of (sym c.in-Hue.is)
