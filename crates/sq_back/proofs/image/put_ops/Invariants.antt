use Rattle.std.proofs.Common.{◌+◌, ◌≤◌, ◌^◌, drop}
use Rattle.sq_back.specs.Code.{ops_cells, ops_lines}
use Rattle.sq_back.specs.Text.{lines_text}
use Rattle.mach_core.proofs.Ahead.{Ahead}
use Rattle.sq_back.proofs.image.put_ops.Given as goal

abbrev pub invariant-loop-i : goal.invariant-loop-i
invariant-loop-i g l = record {
  ahead : Ahead (record { got = g.O.Sink.got l.initial.out; faults = g.O.Sink.faults l.initial.out; held = l.initial.put })
      (record { got = g.O.Sink.got l.out; faults = g.O.Sink.faults l.out; held = l.put })
      (lines_text (ops_lines l.count l.k l.at l.ops)) (lines_text (ops_lines l.count l.k l.here (drop l.i l.ops)));
  room : l.here + ops_cells (drop l.i l.ops) ≤ 2 ^ 22;
}
