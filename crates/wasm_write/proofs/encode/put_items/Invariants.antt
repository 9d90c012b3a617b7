use Rattle.std.proofs.Common.{drop}
use Rattle.std.specs.List.{flat_map}
use Rattle.mach_core.proofs.Ahead.{Ahead}
use Rattle.wasm_write.proofs.encode.put_items.Given as goal

abbrev pub invariant-loop-item : goal.invariant-loop-item
invariant-loop-item g l = Ahead (record { got = g.O.Sink.got l.initial.out; faults = g.O.Sink.faults l.initial.out; held = l.initial.put })
    (record { got = g.O.Sink.got l.out; faults = g.O.Sink.faults l.out; held = l.put })
    (flat_map g.T.Encode.bytes l.items) (flat_map g.T.Encode.bytes (drop l.item-index l.items))
