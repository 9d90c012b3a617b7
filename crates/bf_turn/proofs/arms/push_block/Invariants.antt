use Rattle.std.proofs.Common.{◌≡◌, ◌++◌, take}
use Rattle.bf_turn.specs.Arm.{HasMore}
use Rattle.bf_turn.specs.Code.{arms_code}
use Rattle.bf_turn.proofs.arms.push_block.Given as goal

abbrev pub invariant-loop-i : goal.invariant-loop-i
invariant-loop-i l = record {
  code : l.pieces ≡ l.initial.pieces ++ arms_code l.digits l.numbers l.last l.number (take l.i l.ops);
  effect : HasMore l.digits l.numbers l.last l.number (take l.i l.ops) l.initial.pieces l.pieces;
}
