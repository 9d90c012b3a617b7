use Rattle.piet_image.specs.Raster.{picture_of}
use Rattle.piet_image.proofs.MetLemmas.{nothing_ahead}
use Rattle.piet_image.proofs.met.ahead.Goals as goal

pub returns-in_default-clause-met : goal.returns-in_default-clause-met
returns-in_default-clause-met c = nothing_ahead (picture_of c.args.image.now) c.args.pointer c.args.place c.in_default.ensures
