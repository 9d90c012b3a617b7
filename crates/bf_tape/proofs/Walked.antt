-- How far loops with shifts go.
use Rattle.std.proofs.Common.{◌≡◌, ℕ, zero, suc, ◌+◌, ◌-◌, ◌*◌, ◌≤◌, Bool, true, false, cond, List, refl, arith, suc-mul}
use Rattle.bf_lang.specs.declared.command.Command.{Command}
use Rattle.bf_tape.specs.Tape.{Tape, get}
use Rattle.bf_tape.specs.Piece.{Walks}
use Rattle.bf_tape.specs.Piece.Walks.{Over, Turn}
use Rattle.bf_tape.specs.Laws.{IsMoved}

pub walk_moves : {input : List ℕ} {body : List Command} {c by : ℕ} (right : Bool) {s t : Tape} {turns most : ℕ} → Walks input body c by right s t turns most → IsMoved s t c by right turns
walk_moves true (Over s z) = record { moved = omega arith; zero = z }
walk_moves false (Over s z) = record { moved = omega arith; zero = z }
walk_moves {by = by} true (Turn s s' s'' n a b on does same room more) =
    let rest = walk_moves true more in
    record { moved = omega (arith, rest.moved, same, suc-mul n by); zero = rest.zero }
walk_moves {by = by} false (Turn s s' s'' n a b on does same room more) =
    let rest = walk_moves false more in
    let le : by ≤ s'.base = room refl in
    record { moved = omega (arith, rest.moved, same, le, suc-mul n by); zero = rest.zero }
