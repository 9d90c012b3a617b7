use Rattle.std.proofs.Common.{map, ap, ◌∙◌, List, Vec, Global}
use Rattle.word24.specs.declared.word.Word.{Word}
use Rattle.piet_lane.specs.declared.command.Command.{Command}
use Rattle.piet_back.specs.Lanes.{init_code, data_lanes}
use Rattle.piet_back.proofs.Drawing.{lanes_put}
use Rattle.piet_back.proofs.lanes.lanes.Goals as goal

pub returns : goal.returns
returns c =
    let p = c.args.p.now in
    let g = c.layout_of-g.result in
    lanes_put p g (map (λ v. v.items) c.new-all.result.items) (map (λ v. v.items) c.put_block_lanes.new.lanes.items) (map (λ v. v.items) c.put_both_lanes.new.lanes.items) (map (λ v. v.items) c.put_lane.new.lanes.items) (map (λ v. v.items) c.put_data_lanes.new.lanes.items) (map (λ v. v.items) c.put_pair_lanes.new.lanes.items)
    c.in_ok-init_lane_at.field-0.items c.words.result.now c.start.result c.layout_of-g.ensures (ap (λ (xs : List (Vec Command Global)). map (λ v. v.items) xs) c.new-all.ensures.items) c.in_ok-put_block_lanes.ensures c.in_ok-put_both_lanes.ensures c.in_ok-init_lane_at.ensures c.start.ensures c.in_ok-put_lane.ensures
    c.words.ensures.words c.in_ok-put_data_lanes.ensures c.in_ok-put_pair_lanes.ensures
