-- For proofs only: colours as bytes.
use Rattle.std.specs.Prelude.{ℕ, ◌-◌, ◌/◌, ◌%◌, ◌==◌, if◌then◌else◌}
use Rattle.piet_image.specs.declared.colour.Colour.{Colour}
use Rattle.piet_image.specs.declared.colour.Colour.TheVariants.{White, Black, Hue}

abbrev pub decoded : ℕ → Colour
decoded code = if code == 0 then White else (if code == 1 then Black else Hue ((code - 2) / 3) ((code - 2) % 3))
