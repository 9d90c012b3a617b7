use Rattle.std.proofs.Common.{◌≡◌, ◌++◌, drop, length, map, take}
use Rattle.piet_back.specs.Lanes.{flat, block_lanes}
use Rattle.piet_back.proofs.lanes.put_block_lanes.Given as goal

abbrev pub invariant-loop-k : goal.invariant-loop-k
invariant-loop-k l = record {
  first : l.first ≡ length (flat (take l.k l.p.blocks));
  lanes : map (λ v. v.items) l.lanes.items ++ block_lanes l.g l.first (drop l.k l.p.blocks) ≡ map (λ v. v.items) l.fn.lanes.items ++ block_lanes l.g 0 l.p.blocks;
}
