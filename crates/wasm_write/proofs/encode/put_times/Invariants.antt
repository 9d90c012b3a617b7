use Rattle.std.proofs.Common.{◌-◌, replicate}
use Rattle.mach_core.proofs.Ahead.{Ahead}
use Rattle.wasm_write.proofs.encode.put_times.Given as goal

abbrev pub invariant-loop : goal.invariant-loop
invariant-loop g l = Ahead (record { got = g.O.Sink.got l.initial.out; faults = g.O.Sink.faults l.initial.out; held = l.initial.put })
    (record { got = g.O.Sink.got l.out; faults = g.O.Sink.faults l.out; held = l.put })
    (replicate l.count l.byte) (replicate (l.count - l.counter) l.byte)
