-- Loops: a turn comes back to the test, or goes out.
use Rattle.std.proofs.Common.{◌≡◌, ℕ, zero, suc, ◌+◌, ◌≤◌, List, [], ◌∷◌, ◌++◌, length, Option, Some, Bool, false, refl, sym, ap, ◌∙◌, arith, length-append}
use Rattle.std.specs.Prelude.{◌-◌, slice_get}
use Rattle.c_eval.specs.State.{Gives, Run}
use Rattle.c_eval.specs.Run.{◌>>=◌, give, choose, paid, stop}
use Rattle.c_eval.specs.Operators.{is_true}
use Rattle.c_eval.specs.Eval.{Flow, Next, Broke, Continued, Returned, turned, loop, do_loop}
use Rattle.c_code.specs.Code as code
use Rattle.c_code.specs.Code.{Instruction, loop_code, do_code}
use Rattle.c_code.specs.Machine.{Control, Handler, unwind, broken_off, continued, step_of}
use Rattle.c_flow.proofs.Leading.{Bounded, Leads, moved, leads_then, leads_give, leads_skip, leads_lower, at_depth}
use Rattle.c_flow.proofs.Standing.{Stands, stands_first, stands_rest}
use Rattle.c_flow.proofs.Forms.{leads_pay}
use Rattle.c_flow.proofs.Choosing.{jump_leads}
use Rattle.c_flow.proofs.Flowing.{goes, Goes, Effects, Tests, next_skipped, test_leads}

-- inside a loop, whose `continue` goes on with its step and whose `break` goes past it
abbrev pub in_loop : Control → ℕ → ℕ → ℕ → Control
in_loop c step past at = record c { at = at; opened = Handler (Some step) past ∷ c.opened }

-- what follows a loop's body
turned_leads : (p : Bounded) (c : Control) (step at to : ℕ) (m : Run Flow) → Leads p (give (in_loop c step to step)) m (goes c to) → (flow : Flow) → Leads p (goes (in_loop c step to at) step flow) (turned flow m) (goes c to)
unfolding goes turned broken_off continued unwind
turned_leads p c step at to m t Next = t
turned_leads p c step at to m t Continued = t
turned_leads p c step at to m t Broke = leads_give p (goes (in_loop c step to at) step Broke) (goes c to) Next (λ st. refl)
turned_leads p c step at to m t (Returned v) = leads_give p (goes (in_loop c step to at) step (Returned v)) (goes c to) (Returned v) (λ st. refl)

below : (n depth : ℕ) → suc n ≤ depth → n ≤ depth
below n depth le = omega (arith, le)

pub stopped : {A : Type 0} (p : Bounded) (r : Run Control) (h : A → Run Control) → Leads (at_depth p zero) r stop h
stopped p r h = record { leads = λ st lt. absurd (omega (arith, lt)); keeps = λ st lt. absurd (omega (arith, lt)) }

-- where the parts of a loop stand
record LoopStands (p : Bounded) (test step body : List Instruction) (at up mid end to count back : ℕ) : Type 0 where
  tested : Stands p.program at test
  jump_place : up ≡ at + length test
  jumps : slice_get p.program.instructions up ≡ Some (code.JumpUnless count)
  out : suc up + count ≡ suc end
  pays : slice_get p.program.instructions (suc up) ≡ Some code.Pay
  turn : Stands p.program (suc (suc up)) body
  step_place : mid ≡ suc (suc up) + length body
  steps : Stands p.program mid step
  back_place : end ≡ mid + length step
  goes_back : slice_get p.program.instructions end ≡ Some (code.Back back)
  again : suc end - back ≡ at
  done : slice_get p.program.instructions (suc end) ≡ Some code.Done
  past : suc (suc end) ≡ to

loop_turns : (p : Bounded) (slots : List (Option ℕ)) (test step body : List Instruction) (b : Run Bool) (e : Run (Unit {0})) (m : Run Flow) → Tests p slots test b → Effects p slots step e → Goes p slots body m →
    (c : Control) → c.slots ≡ slots → (at up mid end to count back : ℕ) → LoopStands p test step body at up mid end to count back → (n : ℕ) → n ≤ p.depth → Leads (at_depth p n) (give (in_loop c mid to at)) (loop false n b e m) (goes c to)
unfolding loop step_of give
loop_turns p slots test step body b e m t u v c sl at up mid end to count back s zero le = stopped p (give (in_loop c mid to at)) (goes c to)
loop_turns p slots test step body b e m t u v c sl at up mid end to count back s (suc n) le =
    let inside : Control = in_loop c mid to at in
    let less = below n p.depth le in
    test_leads (at_depth p (suc n)) slots test b inside up (λ x. choose x (paid false (m >>= λ flow. turned flow (e >>= λ _. loop false n b e m))) (give Next)) (goes c to)
    (record { value = t.value; lands = λ d k f g h. leads_lower p (suc n) le (t.lands d k f g h); truth = t.truth }) s.jump_place sl s.tested
    (λ x. jump_leads (at_depth p (suc n)) inside up count x (is_true x) _ _ (goes c to) refl s.jumps
    (leads_pay (at_depth p n) (in_loop c mid to (suc up)) s.pays
    (leads_then (at_depth p n) (goes (in_loop c mid to (suc (suc up))) mid) (leads_lower p n less (v (in_loop c mid to (suc (suc up))) mid s.step_place sl s.turn))
    (λ flow. turned_leads (at_depth p n) c mid (suc (suc up)) to (e >>= λ _. loop false n b e m)
    (leads_then (at_depth p n) (λ _. give (in_loop c mid to end)) (leads_lower p n less (u (in_loop c mid to mid) end s.back_place sl s.steps))
    (λ _. leads_skip (at_depth p n) (in_loop c mid to end) inside (code.Back back) s.goes_back (λ st. ap (λ k. Gives (in_loop c mid to k) st) s.again)
    (loop_turns p slots test step body b e m t u v c sl at up mid end to count back s n less))) flow)))
    (next_skipped (at_depth p (suc n)) (in_loop c mid to (suc up + count)) c to code.Done (ap (λ k. slice_get p.program.instructions k) s.out ∙ s.done) (λ st. ap (λ k. Gives (moved c k c.stack) st) (ap suc s.out ∙ s.past))))

abbrev turn_code : List Instruction → List Instruction → List Instruction → List Instruction
turn_code test step body = code.JumpUnless (length body + length step + 2) ∷ code.Pay ∷ (body ++ (step ++ code.Back (length test + length body + length step + 3) ∷ code.Done ∷ []))

turn_length : (test step body : List Instruction) → length (turn_code test step body) ≡ length body + length step + 4
turn_length test step body =
    let l : length (body ++ (step ++ code.Back (length test + length body + length step + 3) ∷ code.Done ∷ [])) ≡ length body + length (step ++ code.Back (length test + length body + length step + 3) ∷ code.Done ∷ []) = length-append body _ in
    let k : length (step ++ code.Back (length test + length body + length step + 3) ∷ code.Done ∷ []) ≡ length step + 2 = length-append step _ in
    omega (arith, l, k)

loop_place : (at to t s b w : ℕ) → w ≡ b + s + 4 → to ≡ suc at + (t + w) → suc (suc ((suc (suc (suc at + t)) + b) + s)) ≡ to
loop_place at to t s b w e f = omega (arith, e, f)

handler_place : (at t s b w to : ℕ) → w ≡ b + s + 4 → to ≡ suc at + (t + w) → suc at + (t + b + 2) ≡ suc (suc (suc at + t)) + b
handler_place at t s b w to e f = omega arith

pub loop_goes : (p : Bounded) (slots : List (Option ℕ)) (test step body : List Instruction) (b : Run Bool) (e : Run (Unit {0})) (m : Run Flow) → Tests p slots test b → Effects p slots step e → Goes p slots body m →
    Goes p slots (loop_code test step body) (loop false p.depth b e m)
unfolding step_of give
loop_goes p slots test step body b e m t u v c to f sl s =
    leads_skip p c (in_loop c mid to (suc c.at)) (code.Loop (length test + length body + 2) (length test + length turn)) s.0
    (λ st. ap (λ k. Gives (in_loop c k (suc c.at + (length test + length turn)) (suc c.at)) st) (handler_place c.at (length test) (length step) (length body) (length turn) to (turn_length test step body) place) ∙ ap (λ k. Gives (in_loop c mid k (suc c.at)) st) (sym place))
    (loop_turns p slots test step body b e m t u v c sl (suc c.at) up mid end to _ _ stands p.depth (omega arith))
  where
    turn : List Instruction
    turn = turn_code test step body

    up : ℕ
    up = suc c.at + length test

    mid : ℕ
    mid = suc (suc up) + length body

    end : ℕ
    end = mid + length step

    place : to ≡ suc c.at + (length test + length turn)
    place = let l : length (test ++ turn) ≡ length test + length turn = length-append test turn in omega (arith, f, l)

    behind : Stands p.program up turn
    behind = stands_rest p.program (suc c.at) up test turn refl s.1

    below_body : Stands p.program mid (step ++ code.Back (length test + length body + length step + 3) ∷ code.Done ∷ [])
    below_body = stands_rest p.program (suc (suc up)) mid body _ refl behind.1.1

    last : Stands p.program end (code.Back (length test + length body + length step + 3) ∷ code.Done ∷ [])
    last = stands_rest p.program mid end step _ refl below_body

    out_place : suc up + (length body + length step + 2) ≡ suc end
    out_place = omega arith

    again_place : suc end - (length test + length body + length step + 3) ≡ suc c.at
    again_place = omega arith

    stands : LoopStands p test step body (suc c.at) up mid end to (length body + length step + 2) (length test + length body + length step + 3)
    stands = record {
      tested = stands_first p.program (suc c.at) test turn s.1;
      jump_place = refl;
      jumps = behind.0;
      out = out_place;
      pays = behind.1.0;
      turn = stands_first p.program (suc (suc up)) body _ behind.1.1;
      step_place = refl;
      steps = stands_first p.program mid step _ below_body;
      back_place = refl;
      goes_back = last.0;
      again = again_place;
      done = last.1.0;
      past = loop_place c.at to (length test) (length step) (length body) (length turn) (turn_length test step body) place;
    }

-- ---- `do`

record DoStands (p : Bounded) (body test : List Instruction) (at mid up to back : ℕ) : Type 0 where
  pays : slice_get p.program.instructions at ≡ Some code.Pay
  turn : Stands p.program (suc at) body
  test_place : mid ≡ suc at + length body
  tested : Stands p.program mid test
  jump_place : up ≡ mid + length test
  jumps : slice_get p.program.instructions up ≡ Some (code.JumpUnless 1)
  goes_back : slice_get p.program.instructions (suc up) ≡ Some (code.Back back)
  again : suc (suc up) - back ≡ at
  done : slice_get p.program.instructions (suc (suc up)) ≡ Some code.Done
  past : suc (suc (suc up)) ≡ to

one_more : (up : ℕ) → suc up + 1 ≡ suc (suc up)
one_more up = omega arith

do_turns : (p : Bounded) (slots : List (Option ℕ)) (body test : List Instruction) (m : Run Flow) (b : Run Bool) → Goes p slots body m → Tests p slots test b →
    (c : Control) → c.slots ≡ slots → (at mid up to back : ℕ) → DoStands p body test at mid up to back → (n : ℕ) → n ≤ p.depth → Leads (at_depth p n) (give (in_loop c mid to at)) (do_loop false n b m) (goes c to)
unfolding do_loop step_of give
do_turns p slots body test m b u t c sl at mid up to back s zero le = stopped p (give (in_loop c mid to at)) (goes c to)
do_turns p slots body test m b u t c sl at mid up to back s (suc n) le =
    let less = below n p.depth le in
    leads_pay (at_depth p n) (in_loop c mid to at) s.pays
    (leads_then (at_depth p n) (goes (in_loop c mid to (suc at)) mid) (leads_lower p n less (u (in_loop c mid to (suc at)) mid s.test_place sl s.turn))
    (λ flow. turned_leads (at_depth p n) c mid (suc at) to (b >>= λ x. choose x (do_loop false n b m) (give Next))
    (test_leads (at_depth p n) slots test b (in_loop c mid to mid) up (λ x. choose x (do_loop false n b m) (give Next)) (goes c to)
    (record { value = t.value; lands = λ d k f g h. leads_lower p n less (t.lands d k f g h); truth = t.truth }) s.jump_place sl s.tested
    (λ x. jump_leads (at_depth p n) (in_loop c mid to mid) up 1 x (is_true x) _ _ (goes c to) refl s.jumps
    (leads_skip (at_depth p n) (in_loop c mid to (suc up)) (in_loop c mid to at) (code.Back back) s.goes_back (λ st. ap (λ k. Gives (in_loop c mid to k) st) s.again)
    (do_turns p slots body test m b u t c sl at mid up to back s n less))
    (next_skipped (at_depth p n) (in_loop c mid to (suc up + 1)) c to code.Done (ap (λ k. slice_get p.program.instructions k) (one_more up) ∙ s.done) (λ st. ap (λ k. Gives (moved c k c.stack) st) (ap suc (one_more up) ∙ s.past))))) flow))

pub do_goes : (p : Bounded) (slots : List (Option ℕ)) (body test : List Instruction) (m : Run Flow) (b : Run Bool) → Goes p slots body m → Tests p slots test b → Goes p slots (do_code body test) (do_loop false p.depth b m)
unfolding step_of give
do_goes p slots body test m b u t c to f sl s =
    leads_skip p c (in_loop c mid to (suc c.at)) (code.Loop (length body + 1) (length body + length test + 4)) s.0
    (λ st. ap (λ k. Gives (in_loop c k (suc c.at + (length body + length test + 4)) (suc c.at)) st) step_is ∙ ap (λ k. Gives (in_loop c mid k (suc c.at)) st) past_is)
    (do_turns p slots body test m b u t c sl (suc c.at) mid up to _ stands p.depth (omega arith))
  where
    tail : List Instruction
    tail = code.JumpUnless 1 ∷ code.Back (length body + length test + 3) ∷ code.Done ∷ []

    mid : ℕ
    mid = suc (suc c.at) + length body

    up : ℕ
    up = mid + length test

    step_is : suc c.at + (length body + 1) ≡ mid
    step_is = omega arith

    past_is : suc c.at + (length body + length test + 4) ≡ to
    past_is =
        let l : length (body ++ (test ++ tail)) ≡ length body + length (test ++ tail) = length-append body (test ++ tail) in
        let k : length (test ++ tail) ≡ length test + 3 = length-append test tail in
        omega (arith, f, l, k)

    end_is : suc (suc (suc up)) ≡ suc c.at + (length body + length test + 4)
    end_is = omega arith

    again_place : suc (suc up) - (length body + length test + 3) ≡ suc c.at
    again_place = omega arith

    below_body : Stands p.program mid (test ++ tail)
    below_body = stands_rest p.program (suc (suc c.at)) mid body (test ++ tail) refl s.1.1

    last : Stands p.program up tail
    last = stands_rest p.program mid up test tail refl below_body

    stands : DoStands p body test (suc c.at) mid up to (length body + length test + 3)
    stands = record {
      pays = s.1.0;
      turn = stands_first p.program (suc (suc c.at)) body (test ++ tail) s.1.1;
      test_place = refl;
      tested = stands_first p.program mid test tail below_body;
      jump_place = refl;
      jumps = last.0;
      goes_back = last.1.0;
      again = again_place;
      done = last.1.1.0;
      past = end_is ∙ past_is;
    }
