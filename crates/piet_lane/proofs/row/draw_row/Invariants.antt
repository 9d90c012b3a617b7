use Rattle.std.proofs.Common.{◌≡◌, unwrap_or}
use Rattle.piet_image.specs.declared.colour.Colour.TheVariants.{Black}
use Rattle.piet_image.specs.Printed.{each_of}
use Rattle.piet_lane.specs.Board.{cell}
use Rattle.piet_lane.specs.Drawn.{seen_in}
use Rattle.piet_lane.proofs.row.draw_row.Given as goal

abbrev pub invariant-loop-x : goal.invariant-loop-x
invariant-loop-x l = l.row.items ≡ each_of (λ x. unwrap_or (seen_in l.colours (cell l.extent.count l.extent.reach l.extent.start x l.y)) Black) l.x
