use Rattle.std.proofs.Common.{drop}
use Rattle.sq_back.specs.Text.{lines_text}
use Rattle.mach_core.proofs.Ahead.{Ahead}
use Rattle.sq_back.proofs.put.put_lines.Given as goal

abbrev pub invariant-loop-line : goal.invariant-loop-line
invariant-loop-line g l = Ahead (record { got = g.O.Sink.got l.initial.out; faults = g.O.Sink.faults l.initial.out; held = l.initial.put })
    (record { got = g.O.Sink.got l.out; faults = g.O.Sink.faults l.out; held = l.put })
    (lines_text l.lines) (lines_text (drop l.line-index l.lines))
