use Rattle.std.proofs.Common.{sym, ◌∙◌, arith}
use Rattle.piet_lane.proofs.Drawing.{column_is}
use Rattle.piet_lane.proofs.row.draw_row.Goals as goal

pub seen-requires : goal.seen-requires
seen-requires c = λ i r e.
    let k = column_is c.args.extent.count c.args.extent.reach c.args.extent.start c.loop-x.x c.args.y i r (sym c.cell_at-cell.ensures ∙ e) in
    let lane = k.0 in
    let below = k.1 in
    (omega (arith, lane, c.requires.down, c.requires.count), omega (arith, below))
