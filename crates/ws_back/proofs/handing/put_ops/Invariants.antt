use Rattle.std.proofs.Common.{◌≤◌, drop}
use Rattle.ws_back.specs.Code.{ops_code}
use Rattle.ws_back.proofs.Handed.{Ahead}
use Rattle.ws_back.proofs.handing.put_ops.Given as goal

abbrev pub invariant-loop-op : goal.invariant-loop-op
invariant-loop-op g l = record {
  ahead : Ahead (g.O.Sink.got l.initial.out) (g.O.Sink.got l.out) l.initial.put l.put (ops_code l.count l.ops) (ops_code l.count (drop l.op-index l.ops));
  later : g.O.Sink.faults l.initial.out ≤ g.O.Sink.faults l.out;
}
