use Rattle.piet_lane.proofs.shade.colour_lane.Goals as goal

pub led_to-shade-requires-in-loop-i : goal.led_to-shade-requires-in-loop-i
led_to-shade-requires-in-loop-i c = (c.loop-i.invariant.hue, c.loop-i.invariant.light)
