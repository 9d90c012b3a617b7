use Rattle.std.proofs.Common.{drop}
use Rattle.sq_back.specs.Text.{words_text}
use Rattle.mach_core.proofs.Ahead.{Ahead}
use Rattle.sq_back.proofs.put.put_words.Given as goal

abbrev pub invariant-loop-word : goal.invariant-loop-word
invariant-loop-word g l = Ahead (record { got = g.O.Sink.got l.initial.out; faults = g.O.Sink.faults l.initial.out; held = l.initial.put })
    (record { got = g.O.Sink.got l.out; faults = g.O.Sink.faults l.out; held = l.put })
    (words_text l.words) (words_text (drop l.word-index l.words))
