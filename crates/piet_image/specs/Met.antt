-- What is met stands within an image, and its colour is one.
use Rattle.std.specs.Prelude.{ℕ, ◌<◌}
use Rattle.piet_image.specs.declared.place.Place.{Place}
use Rattle.piet_image.specs.declared.met.Met.{Met}
use Rattle.piet_image.specs.declared.met.Met.TheVariants.{Blocked, Free, Onto}

abbrev pub IsMet : ℕ → ℕ → Met → Type 0
IsMet width height Blocked = Unit {0}
IsMet width height (Free q) = (q.x < width) × (q.y < height)
IsMet width height (Onto q hue light) = (q.x < width) × (q.y < height) × (hue < 6) × (light < 3)
