use Rattle.piet_image.proofs.AtlasOf.{atlas_of}
use Rattle.piet_image.proofs.Sizes.{one_atlas}
use Rattle.piet_image.proofs.laws.pictures_have_one_atlas.Goals as goal

pub returns : goal.returns
returns c = λ f w h inside. record { atlas = atlas_of f w h inside; only = λ other. one_atlas f (atlas_of f w h inside) other }
