use Rattle.std.proofs.Common.{◌-◌}
use Rattle.piet_image.specs.Raster.{picture_of}
use Rattle.piet_image.proofs.Images.{image_atlas}
use Rattle.piet_lang.specs.Depart.{Failed}
use Rattle.piet_lang.proofs.chart.Chart.leave.Given as goal

abbrev pub invariant-loop-turns : goal.invariant-loop-turns
invariant-loop-turns l = Failed (picture_of l.self) (image_atlas l.self) l.fn.stand l.from (4 - l._turns)
