use Rattle.std.proofs.Common.{◌≡◌, ◌+◌, ◌++◌, length, map, take, refl, sym, ap, ◌∙◌, arith}
use Rattle.piet_stack.specs.Code.{number_code}
use Rattle.piet_back.specs.declared.layout.Layout.{Layout}
use Rattle.piet_back.specs.Lanes.{layout_of, block_lanes}
use Rattle.piet_back.proofs.Drawing.{block_lane_more, first_few}
use Rattle.piet_back.proofs.Lookups.{before_next, before_few, length-flat}
use Rattle.piet_back.proofs.lanes.put_block_lanes.Goals as goal

pub op_lane-requires : goal.op_lane-requires
op_lane-requires c =
    let p = c.args.p.now in
    let blocks : c.args.g.blocks ≡ length p.blocks = ap (λ (z : Layout). z.blocks) c.requires.layout in
    let few = first_few p c.loop-k.k c.requires.small in
    omega (arith, blocks, few, c.loop-k.invariant.first)

pub number_lane-requires : goal.number_lane-requires
number_lane-requires c =
    let p = c.args.p.now in
    let blocks : c.args.g.blocks ≡ length p.blocks = ap (λ (z : Layout). z.blocks) c.requires.layout in
    let few = first_few p c.loop-k.k c.requires.small in
    omega (arith, blocks, few, c.loop-k.invariant.first, c.op_lane.ensures)

pub overflow_add-first : goal.overflow_add-first
overflow_add-first c =
    let p = c.args.p.now in
    let next = before_next p.blocks c.loop-k.k (c.loop-k.k + 1) c.in-Some.ops.now c.in-Some.ensures.ops refl in
    let few = first_few p (c.loop-k.k + 1) c.requires.small in
    omega (arith, next, few, c.loop-k.invariant.first)

pub loop-k-preserved : goal.loop-k-preserved
loop-k-preserved c =
    let p = c.args.p.now in
    let ops = c.in-Some.ops.now in
    let next = before_next p.blocks c.loop-k.k (c.loop-k.k + 1) ops c.in-Some.ensures.ops refl in
    record {
      first = omega (arith, next, c.loop-k.invariant.first);
      lanes = block_lane_more c.args.g p.blocks c.loop-k.k c.loop-k.first (c.loop-k.first + length ops) ops (map (λ v. v.items) c.loop-k.lanes.items) (map (λ v. v.items) c.put_lane.new.lanes.items) (map (λ v. v.items) c.args.lanes.now.items ++ block_lanes c.args.g 0 p.blocks)
          c.in_ok-number_lane.field-0.items c.in-Some.ensures.ops refl c.loop-k.invariant.lanes (c.in_ok-number_lane.ensures ∙ ap number_code c.op_lane.ensures) c.in_ok-put_lane.ensures;
    }
