use Rattle.std.proofs.Common.{◌+◌, ◌≤◌, ◌^◌, drop, length}
use Rattle.sq_back.specs.Code.{blocks_cells, blocks_start, blocks_lines}
use Rattle.sq_back.specs.Text.{lines_text}
use Rattle.mach_core.proofs.Ahead.{Ahead}
use Rattle.sq_back.proofs.image.put_blocks.Given as goal

abbrev pub invariant-loop-k : goal.invariant-loop-k
invariant-loop-k g l = record {
  ahead : Ahead (record { got = g.O.Sink.got l.initial.out; faults = g.O.Sink.faults l.initial.out; held = l.initial.put })
      (record { got = g.O.Sink.got l.out; faults = g.O.Sink.faults l.out; held = l.put })
      (lines_text (blocks_lines (length l.p.blocks) 0 (blocks_start l.p) l.p.blocks)) (lines_text (blocks_lines (length l.p.blocks) l.k l.at (drop l.k l.p.blocks)));
  room : l.at + blocks_cells (drop l.k l.p.blocks) ≤ 2 ^ 22;
}
