use Rattle.std.proofs.Common.{drop}
use Rattle.std.specs.List.{flat_map}
use Rattle.mach_core.proofs.Ahead.{Ahead}
use Rattle.piet_image.specs.Printed.{row_text}
use Rattle.piet_lane.specs.Drawn.{rows_of}
use Rattle.piet_lane.specs.Lanes.{lanes_of}
use Rattle.piet_lane.proofs.board.Board.put_rows.Given as goal

abbrev pub invariant-loop-y : goal.invariant-loop-y
invariant-loop-y g l = Ahead (record { got = g.O.Sink.got l.initial.out; faults = g.O.Sink.faults l.initial.out; held = l.initial.put })
    (record { got = g.O.Sink.got l.out; faults = g.O.Sink.faults l.out; held = l.put })
    (flat_map row_text (rows_of (lanes_of l.self.lanes) l.self.reach l.self.start)) (flat_map row_text (drop l.y (rows_of (lanes_of l.self.lanes) l.self.reach l.self.start)))
