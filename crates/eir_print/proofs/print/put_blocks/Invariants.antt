use Rattle.std.proofs.Common.{drop}
use Rattle.eir_print.specs.Printed.{text_of, blocks_lines}
use Rattle.mach_core.proofs.Ahead.{Ahead}
use Rattle.eir_print.proofs.print.put_blocks.Given as goal

abbrev pub invariant-loop-k : goal.invariant-loop-k
invariant-loop-k g l = Ahead (record { got = g.O.Sink.got l.initial.out; faults = g.O.Sink.faults l.initial.out; held = l.initial.put })
    (record { got = g.O.Sink.got l.out; faults = g.O.Sink.faults l.out; held = l.put })
    (text_of (blocks_lines l.p.start 0 l.p.blocks)) (text_of (blocks_lines l.p.start l.k (drop l.k l.p.blocks)))
