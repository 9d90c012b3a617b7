use Rattle.std.proofs.Common.{◌≡◌, ℕ, ◌+◌, ◌-◌, ◌/◌, List, length, sym, ap, ◌∙◌, arith}
use Rattle.piet_lang.proofs.BackLemmas.{on_ok}
use Rattle.piet_lane.specs.declared.command.Command.{Command}
use Rattle.piet_lane.specs.Board.{lane_at}
use Rattle.piet_lane.specs.Drawn.{Drawn, lane_colours}
use Rattle.piet_lane.specs.Lanes.{acts_of, lanes_of}
use Rattle.piet_lane.proofs.Drawing.{drawn_by, lane_acts, count_lanes}
use Rattle.piet_lane.proofs.board.Board.draw.Goals as goal

pub colour_lane-requires : goal.colour_lane-requires
colour_lane-requires c = omega (arith, c.saturating_sub-lane.ensures, c.requires, c.count-count.ensures.count, c.count-count.ensures.few)

pub returns : goal.returns
returns c =
    let d = c.args.self.now in
    let lanes = lanes_of d.lanes in
    let y = c.args.y in
    let i = c.saturating_sub-lane.result / 5 in
    let at : i ≡ (y - 3) / 5 = ap (λ n. n / 5) c.saturating_sub-lane.ensures in
    let colours : c.deref.result.now ≡ lane_colours ((y - 3) / 5) (lane_at lanes ((y - 3) / 5)) =
    c.deref.ensures.value ∙ (c.in_ok-colour_lane.ensures ∙ (ap (λ (xs : List Command). lane_colours i (acts_of xs)) c.lane.ensures ∙ (ap (lane_colours i) (lane_acts d.lanes i) ∙ ap (λ n. lane_colours n (lane_at lanes n)) at))) in
    let count : c.count-count.result ≡ length lanes = c.count-count.ensures.count ∙ sym (count_lanes d.lanes) in
    on_ok c.draw_row.result _ _
    (λ drawn. drawn ∙ drawn_by lanes y c.deref.result.now c.count-count.result c.self.inside.reach c.self.inside.start d.reach d.start colours count (ap (λ (z : Drawn). z.reach) c.self.view_is) (ap (λ (z : Drawn). z.start) c.self.view_is))
    c.draw_row.ensures
