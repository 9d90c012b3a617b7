use Rattle.std.proofs.Common.{◌≤◌, drop}
use Rattle.ws_back.specs.Code.{words_code}
use Rattle.ws_back.proofs.Handed.{Ahead}
use Rattle.ws_back.proofs.handing.put_words.Given as goal

abbrev pub invariant-loop-a : goal.invariant-loop-a
invariant-loop-a g l = record {
  ahead : Ahead (g.O.Sink.got l.initial.out) (g.O.Sink.got l.out) l.initial.put l.put (words_code 0 l.words) (words_code l.a (drop l.a l.words));
  later : g.O.Sink.faults l.initial.out ≤ g.O.Sink.faults l.out;
}
