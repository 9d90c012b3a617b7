use Rattle.std.proofs.Common.{◌≤◌, drop}
use Rattle.ws_back.specs.Code.{blocks_code}
use Rattle.ws_back.proofs.Handed.{Ahead}
use Rattle.ws_back.proofs.handing.put_blocks.Given as goal

abbrev pub invariant-loop-k : goal.invariant-loop-k
invariant-loop-k g l = record {
  ahead : Ahead (g.O.Sink.got l.initial.out) (g.O.Sink.got l.out) l.initial.put l.put (blocks_code l.count 0 l.p.blocks) (blocks_code l.count l.k (drop l.k l.p.blocks));
  later : g.O.Sink.faults l.initial.out ≤ g.O.Sink.faults l.out;
}
