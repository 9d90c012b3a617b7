use Rattle.std.proofs.Common.{drop}
use Rattle.mach_core.proofs.Ahead.{Ahead}
use Rattle.bf_lang.specs.Laws.{text_of}
use Rattle.bf_tape.proofs.frag.Frag.send.Given as goal

abbrev pub invariant-loop-command : goal.invariant-loop-command
invariant-loop-command g l = Ahead (record { got = g.O.Sink.got l.initial.out; faults = g.O.Sink.faults l.initial.out; held = l.initial.put })
    (record { got = g.O.Sink.got l.out; faults = g.O.Sink.faults l.out; held = l.put })
    (text_of l.commands) (text_of (drop l.command-index l.commands))
