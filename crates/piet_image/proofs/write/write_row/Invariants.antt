use Rattle.std.proofs.Common.{drop}
use Rattle.mach_core.proofs.Ahead.{Ahead}
use Rattle.piet_image.specs.Printed.{row_text}
use Rattle.piet_image.proofs.write.write_row.Given as goal

abbrev pub invariant-loop-i : goal.invariant-loop-i
invariant-loop-i g l = Ahead (record { got = g.O.Sink.got l.initial.out; faults = g.O.Sink.faults l.initial.out; held = l.initial.put })
    (record { got = g.O.Sink.got l.out; faults = g.O.Sink.faults l.out; held = l.put })
    (row_text l.row) (row_text (drop l.i l.row))
