use Rattle.std.proofs.Common.{◌≡◌, ◌<◌, ◌++◌, drop}
use Rattle.piet_lane.specs.Drawn.{lane_colours, chain_behind}
use Rattle.piet_lane.specs.Lanes.{acts_of}
use Rattle.piet_lane.proofs.shade.colour_lane.Given as goal

abbrev pub invariant-loop-i : goal.invariant-loop-i
invariant-loop-i l = record {
  chain : lane_colours l.fn.lane (acts_of l.commands) ≡ l.colours.items ++ chain_behind l.shade (acts_of (drop l.i l.commands));
  hue : l.shade.hue < 6;
  light : l.shade.light < 3;
}
