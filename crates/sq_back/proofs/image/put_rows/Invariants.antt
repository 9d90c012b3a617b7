use Rattle.std.proofs.Common.{◌+◌, ◌≤◌, ◌^◌, drop}
use Rattle.sq_back.specs.Code.{blocks_cells, blocks_start, rows_lines}
use Rattle.sq_back.specs.Text.{lines_text}
use Rattle.mach_core.proofs.Ahead.{Ahead}
use Rattle.sq_back.proofs.image.put_rows.Given as goal

abbrev pub invariant-loop-k : goal.invariant-loop-k
invariant-loop-k g l = record {
  ahead : Ahead (record { got = g.O.Sink.got l.initial.out; faults = g.O.Sink.faults l.initial.out; held = l.initial.put })
      (record { got = g.O.Sink.got l.out; faults = g.O.Sink.faults l.out; held = l.put })
      (lines_text (rows_lines (blocks_start l.p) l.p.blocks)) (lines_text (rows_lines l.at (drop l.k l.p.blocks)));
  room : l.at + blocks_cells (drop l.k l.p.blocks) ≤ 2 ^ 22;
}
