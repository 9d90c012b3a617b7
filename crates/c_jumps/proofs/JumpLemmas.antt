-- Choices and loops.
use Rattle.std.proofs.Common.{◌≡◌, ◌+◌, ◌-◌, ℕ, suc, List, [], ◌∷◌, ◌++◌, length, ap, ap₂, subst, ◌∙◌, length-append, arith}
use Rattle.c_code.specs.Code as code
use Rattle.c_code.specs.Code.{choice_code, loop_code, do_code}
use Rattle.c_plain.specs.declared.instruction.Instruction.TheVariants as plain
use Rattle.c_emitted.specs.declared.emitter.Emitter.{Emitter}
use Rattle.c_emitted.specs.Emits.{Emits, Reserves, Fills}
use Rattle.c_emitted.proofs.EmitLemmas.{both, patched, behind_place}
use Rattle.c_jumps.specs.Adds.{Adds}
use Rattle.c_jumps.specs.Jumps.{Turns, BeginsTurn, EndsLoop, EndsDo}
use Rattle.c_jumps.proofs.AddLemmas.{added, adds_both, adds_patched, adds_longer}

-- a test jumps behind the only code that it chooses
pub one_chosen : (s a b c d : Emitter) (test n : ℕ) {xs bs : List code.Instruction} {ls ms : List (List ℕ)} → Emits s a xs ls → Reserves a b test → Emits b c bs ms → n + suc test ≡ length c.code → Fills c d test (plain.JumpUnless n)
    → Emits s d (xs ++ (code.JumpUnless (length bs) ∷ bs)) (ls ++ ms)
one_chosen s a b c d test n {xs} {bs} first r yea many fills =
    let behind = behind_place a b c test r yea in
    let count : n ≡ length bs = omega (arith, many, behind) in
    both first (patched a b c d test (code.JumpUnless (length bs)) (plain.JumpUnless n) r yea fills (record { means = λ names p f. ap plain.JumpUnless count }))

-- a test jumps behind the code that follows it
turned : (a b c d : Emitter) (test jump : ℕ) {is : List code.Instruction} {ls : List (List ℕ)} → Reserves a b test → Emits b c is ls → (t : Turns c d test jump) → Emits a t.filled (code.JumpUnless (length is + 1) ∷ is) ls
turned a b c d test jump {is} r e t =
    let behind = behind_place a b c test r e in
    let count : t.distance ≡ length is = omega (arith, t.behind, behind) in
    patched a b c t.filled test (code.JumpUnless (length is + 1)) (plain.JumpUnless (t.distance + 1)) r e t.fills (record { means = λ names p f. ap (λ (n : ℕ). plain.JumpUnless (n + 1)) count })

-- both sides stand
pub chosen : (s a b c d e f : Emitter) (test jump n : ℕ) {xs bs cs : List code.Instruction} {ls ms ns : List (List ℕ)} → Emits s a xs ls → Reserves a b test → Emits b c bs ms → Turns c d test jump → Emits d e cs ns
    → n + suc jump ≡ length e.code → Fills e f jump (plain.Jump n) → Emits s f (choice_code xs bs cs) (ls ++ (ms ++ ns))
chosen s a b c d e f test jump n {xs} {bs} {cs} first r yea t nay many fills =
    let behind = behind_place t.filled d e jump t.reserves nay in
    let count : n ≡ length cs = omega (arith, many, behind) in
    both first (both (turned a b c d test jump r yea t)
    (patched t.filled d e f jump (code.Jump (length cs)) (plain.Jump n) t.reserves nay fills (record { means = λ names p g. ap plain.Jump count })))

back_to : (x m n k : ℕ) → x ≡ m + n + k + 2 → x + 1 ≡ m + n + k + 3
back_to x m n k e = omega (arith, e)

out_of : (x n k : ℕ) → x ≡ n + k + 1 → x + 1 ≡ n + k + 2
out_of x n k e = omega (arith, e)

-- a loop: its test, a turn's body, and the step with which a `continue` goes on
pub looped : (a b c d e f z : Emitter) (start test step : ℕ) (ts bs ss : List code.Instruction) → Reserves a b start → Adds b c ts → BeginsTurn c d test → Adds d e bs → step ≡ length e.code → Adds e f ss → EndsLoop f z start test step
    → Adds a z (loop_code ts ss bs)
looped a b c d e f z start test step ts bs ss opens tested turn body at stepped ends =
    let m = length ts in
    let n = length bs in
    let k = length ss in
    let in_b : length b.code ≡ length a.code + 1 = ap length opens.code ∙ length-append a.code (plain.End ∷ []) in
    let in_c = adds_longer tested in
    let in_r : length turn.reserved.code ≡ length c.code + 1 = ap length turn.reserves.code ∙ length-append c.code (plain.End ∷ []) in
    let in_d : length d.code ≡ length turn.reserved.code + 1 = adds_longer (added turn.pays) in
    let in_e = adds_longer body in
    let in_f = adds_longer stepped in
    let all : ends.all ≡ m + n + k + 2 = omega (arith, ends.from_start, opens.place, in_b, in_c, in_r, in_d, in_e, in_f) in
    let from_test : ends.turn ≡ n + k + 1 = omega (arith, ends.from_test, turn.reserves.place, in_r, in_d, in_e, in_f) in
    let again : ends.again ≡ k = omega (arith, ends.from_step, at, in_f) in
    let jumps_back : Adds f ends.ended (code.Back (m + n + k + 3) ∷ code.Done ∷ []) = subst (λ (x : ℕ). Adds f ends.ended (code.Back x ∷ code.Done ∷ [])) (back_to ends.all m n k all) (added ends.ends) in
    let inner : Adds turn.reserved ends.ended (code.Pay ∷ (bs ++ (ss ++ (code.Back (m + n + k + 3) ∷ code.Done ∷ [])))) = adds_both (added turn.pays) (adds_both body (adds_both stepped jumps_back)) in
    let turns : Adds c ends.turned (code.JumpUnless (n + k + 2) ∷ code.Pay ∷ (bs ++ (ss ++ (code.Back (m + n + k + 3) ∷ code.Done ∷ [])))) =
    adds_patched c turn.reserved ends.ended ends.turned test (code.JumpUnless (n + k + 2)) (plain.JumpUnless (ends.turn + 1)) turn.reserves inner ends.turns (record { means = λ names p g. ap plain.JumpUnless (out_of ends.turn n k from_test) }) in
    let long : length (bs ++ (ss ++ (code.Back (m + n + k + 3) ∷ code.Done ∷ []))) ≡ n + (k + 2) = length-append bs (ss ++ (code.Back (m + n + k + 3) ∷ code.Done ∷ [])) ∙ ap (λ (x : ℕ). n + x) (length-append ss (code.Back (m + n + k + 3) ∷ code.Done ∷ [])) in
    let goes : ends.all - ends.again ≡ m + n + 2 = omega (arith, all, again) in
    let leaves : ends.all + 2 ≡ m + suc (suc (length (bs ++ (ss ++ (code.Back (m + n + k + 3) ∷ code.Done ∷ []))))) = omega (arith, all, long) in
    adds_patched a b ends.turned z start (code.Loop (m + n + 2) (m + suc (suc (length (bs ++ (ss ++ (code.Back (m + n + k + 3) ∷ code.Done ∷ []))))))) (plain.Loop (ends.all - ends.again) (ends.all + 2)) opens (adds_both tested turns) ends.loops
    (record { means = λ names p g. ap₂ plain.Loop goes leaves })

done_back : (x n m : ℕ) → x ≡ n + m + 1 → x + 2 ≡ n + m + 3
done_back x n m e = omega (arith, e)

-- a loop whose test comes behind its body
pub done : (a b c d e z : Emitter) (start test : ℕ) (bs ts : List code.Instruction) → Reserves a b start → Emits b c (code.Pay ∷ []) [] → Adds c d bs → test ≡ length d.code → Adds d e ts → EndsDo e z start test → Adds a z (do_code bs ts)
done a b c d e z start test bs ts opens pays body at tested ends =
    let n = length bs in
    let m = length ts in
    let in_b : length b.code ≡ length a.code + 1 = ap length opens.code ∙ length-append a.code (plain.End ∷ []) in
    let in_c : length c.code ≡ length b.code + 1 = adds_longer (added pays) in
    let in_d = adds_longer body in
    let in_e = adds_longer tested in
    let all : ends.all ≡ n + m + 1 = omega (arith, ends.from_start, opens.place, in_b, in_c, in_d, in_e) in
    let again : ends.again ≡ m = omega (arith, ends.from_test, at, in_e) in
    let jumps_back : Adds e ends.ended (code.JumpUnless 1 ∷ code.Back (n + m + 3) ∷ code.Done ∷ []) = subst (λ (x : ℕ). Adds e ends.ended (code.JumpUnless 1 ∷ code.Back x ∷ code.Done ∷ [])) (done_back ends.all n m all) (added ends.ends) in
    let inner : Adds b ends.ended (code.Pay ∷ (bs ++ (ts ++ (code.JumpUnless 1 ∷ code.Back (n + m + 3) ∷ code.Done ∷ [])))) = adds_both (added pays) (adds_both body (adds_both tested jumps_back)) in
    let goes : ends.all - ends.again ≡ n + 1 = omega (arith, all, again) in
    let leaves : ends.all + 3 ≡ n + m + 4 = omega (arith, all) in
    adds_patched a b ends.ended z start (code.Loop (n + 1) (n + m + 4)) (plain.Loop (ends.all - ends.again) (ends.all + 3)) opens inner ends.loops (record { means = λ names p g. ap₂ plain.Loop goes leaves })
