use Rattle.std.proofs.Common.{drop, map}
use Rattle.eir_print.specs.Printed.{text_of, word_line}
use Rattle.mach_core.proofs.Ahead.{Ahead}
use Rattle.eir_print.proofs.print.put_words.Given as goal

abbrev pub invariant-loop-word : goal.invariant-loop-word
invariant-loop-word g l = Ahead (record { got = g.O.Sink.got l.initial.out; faults = g.O.Sink.faults l.initial.out; held = l.initial.put })
    (record { got = g.O.Sink.got l.out; faults = g.O.Sink.faults l.out; held = l.put })
    (text_of (map word_line l.words)) (text_of (map word_line (drop l.word-index l.words)))
