use Rattle.std.proofs.Common.{◌≡◌, ◌∷◌, take}
use Rattle.bf_tape.specs.Code.{add_code}
use Rattle.bf_turn.specs.Arm.{HasAll}
use Rattle.bf_turn.specs.Code.{arms_code}
use Rattle.bf_turn.proofs.Listed.{all_ops}
use Rattle.bf_turn.proofs.arms.arms.Given as goal

abbrev pub invariant-loop-k : goal.invariant-loop-k
invariant-loop-k l = record {
  code : l.pieces ≡ add_code 0 0 255 ∷ arms_code l.digits l.numbers l.last 1 (all_ops (take l.k l.p.blocks));
  effect : HasAll l.digits l.numbers l.last (take l.k l.p.blocks) l.pieces;
}
