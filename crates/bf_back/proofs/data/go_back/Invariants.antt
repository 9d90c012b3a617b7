use Rattle.std.proofs.Common.{◌≡◌, ◌*◌, ◌≤◌}
use Rattle.bf_tape.specs.Piece.{joined, Adds}
use Rattle.bf_back.specs.Data.{back_by}
use Rattle.bf_back.specs.Code.{back_code}
use Rattle.bf_back.proofs.data.go_back.Given as goal

abbrev pub invariant-loop-walked : goal.invariant-loop-walked
invariant-loop-walked l = record {
  code : l.initial.f.cell ≡ 0 → l.f ≡ joined l.initial.f (back_code l.walked) 0;
  effect : Adds l.initial.f l.f (λ s. 22 * l.records ≤ s.base) (λ input s. back_by s (22 * l.walked)) (l.walked * 512) (l.walked * 512);
}
