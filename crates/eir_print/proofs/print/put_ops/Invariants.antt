use Rattle.std.proofs.Common.{drop, map}
use Rattle.eir_print.specs.Printed.{text_of, op_line}
use Rattle.mach_core.proofs.Ahead.{Ahead}
use Rattle.eir_print.proofs.print.put_ops.Given as goal

abbrev pub invariant-loop-op : goal.invariant-loop-op
invariant-loop-op g l = Ahead (record { got = g.O.Sink.got l.initial.out; faults = g.O.Sink.faults l.initial.out; held = l.initial.put })
    (record { got = g.O.Sink.got l.out; faults = g.O.Sink.faults l.out; held = l.put })
    (text_of (map op_line l.ops)) (text_of (map op_line (drop l.op-index l.ops)))
