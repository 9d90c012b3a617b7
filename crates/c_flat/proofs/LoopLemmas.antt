-- Loops, with their string literals.
use Rattle.std.proofs.Common.{◌≡◌, ◌+◌, ℕ, List, [], ◌∷◌, ◌++◌, length, length-append, arith}
use Rattle.c_code.specs.Code as code
use Rattle.c_code.specs.Code.{Instruction, loop_code, do_code}
use Rattle.c_emitted.specs.declared.emitter.Emitter.{Emitter}
use Rattle.c_emitted.specs.Emits.{Emits, Reserves}
use Rattle.c_jumps.specs.Jumps.{BeginsTurn, EndsLoop, EndsDo}
use Rattle.c_jumps.proofs.AddLemmas.{added, counted}
use Rattle.c_jumps.proofs.JumpLemmas.{looped, done}

-- the step's literals are counted with the body's
pub loop_emits : (a b c d e f z : Emitter) (start test step : ℕ) (ts bs ss : List Instruction) {ls ms : List (List ℕ)} → Reserves a b start → Emits b c ts ls → BeginsTurn c d test → Emits d e bs ms → step ≡ length e.code → Emits e f ss [] → EndsLoop f z start test step
    → Emits a z (loop_code ts ss bs) (ls ++ ms)
loop_emits a b c d e f z start test step ts bs ss {ls} {ms} opens tested turn body at stepped ends =
    let k = length-append ls ms in
    let in_b = opens.keeps.before in
    let in_c = tested.before in
    let in_r = turn.reserves.keeps.before in
    let in_d = turn.pays.before in
    let in_e = body.before in
    let in_f = stepped.before in
    let in_x = ends.ends.before in
    let in_y = ends.turns.keeps.before in
    let in_z = ends.loops.keeps.before in
    counted (ls ++ ms) (looped a b c d e f z start test step ts bs ss opens (added tested) turn (added body) at (added stepped) ends) (omega (arith, k, in_b, in_c, in_r, in_d, in_e, in_f, in_x, in_y, in_z))

pub do_emits : (a b c d e z : Emitter) (start test : ℕ) (bs ts : List Instruction) {ls ms : List (List ℕ)} → Reserves a b start → Emits b c (code.Pay ∷ []) [] → Emits c d bs ls → test ≡ length d.code → Emits d e ts ms → EndsDo e z start test → Emits a z (do_code bs ts) (ls ++ ms)
do_emits a b c d e z start test bs ts {ls} {ms} opens pays body at tested ends =
    let k = length-append ls ms in
    let in_b = opens.keeps.before in
    let in_c = pays.before in
    let in_d = body.before in
    let in_e = tested.before in
    let in_x = ends.ends.before in
    let in_z = ends.loops.keeps.before in
    counted (ls ++ ms) (done a b c d e z start test bs ts opens pays (added body) at (added tested) ends) (omega (arith, k, in_b, in_c, in_d, in_e, in_x, in_z))
