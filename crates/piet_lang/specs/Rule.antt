-- What an image does as a program.
use Rattle.mach_core.specs.Rule.{Rule}
use Rattle.piet_image.specs.Raster.{Raster, picture_of}
use Rattle.piet_image.proofs.Images.{image_atlas}
use Rattle.piet_lang.specs.Step.{Config, piet_rule, piet_start}

abbrev pub rule_of : Raster → Rule Config
rule_of image = piet_rule (picture_of image) (image_atlas image)

abbrev pub start_of : Raster → Config
start_of image = piet_start (picture_of image)
