-- For proofs only: how many codels have no number yet.
use Rattle.std.specs.Prelude.{ℕ, ◌+◌, ◌*◌, not, ◌==◌, List, slice_index}
use Rattle.piet_image.specs.Raster.{Raster}
use Rattle.piet_image.proofs.Counts.{count_free}

abbrev pub free_codels : Raster → List ℕ → ℕ
free_codels im numbers = count_free im.width im.height (λ x y. not (slice_index numbers (x * im.height + y) == 0))
