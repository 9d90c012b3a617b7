use Rattle.std.proofs.Common.{◌≡◌, map, take}
use Rattle.mach_core.specs.Put.{Passes}
use Rattle.elvm_cli.specs.Line.{joined}
use Rattle.elvm_cli.proofs.line.put_pieces.Given as goal

abbrev pub invariant-loop-piece : goal.invariant-loop-piece
invariant-loop-piece g l = record {
  passed : Passes (g.E.Sink.got l.initial.errs) (g.E.Sink.got l.errs) (joined (map (λ s. s.now) (take l.piece-index l.pieces))) l.put;
  same : g.E.Sink.faults l.errs ≡ g.E.Sink.faults l.initial.errs;
}
