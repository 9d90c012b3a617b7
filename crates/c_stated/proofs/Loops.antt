-- Loops: each turn's unit pays for it, and the operation before its test is run for the unit.
use Rattle.std.proofs.Common.{◌≡◌, ℕ, zero, suc, ◌+◌, ◌^◌, ◌<◌, ◌≤◌, Bool, true, false, List, length, refl, sym, subst, arith, if◌then◌else◌}
use Rattle.mach_core.specs.Rule.{Moment}
use Rattle.eir_core.specs.Memory.{Memory}
use Rattle.eir_core.specs.Step.{Config}
use Rattle.eir_core.specs.declared.ops.Op.TheVariants.{Jump}
use Rattle.c_eval.specs.State.{Value, State, Run}
use Rattle.c_eval.specs.Run.{◌>>=◌, give, choose, paid}
use Rattle.c_eval.specs.Eval.{Flow, Next, Broke, Continued, Returned, turned, loop, do_loop}
use Rattle.c_place.specs.Place.{Place, Machine, front, Has}
use Rattle.c_lowered.specs.Operations.{constant}
use Rattle.c_lowered.specs.Statements.{Targets, targets}
use Rattle.c_memory.specs.Follows.{Fuel, fuel_of, here}
use Rattle.c_memory.specs.Lies.{Extent}
use Rattle.c_memory.proofs.Following.{first_then, then_follows, wider, give_follows}
use Rattle.c_landing.specs.Landing.{Setting, Ready, Left, Reached}
use Rattle.c_landing.proofs.Landing.{F, left_here, ready_later, left_then}
use Rattle.c_valued.specs.Calls.{UnitPays}
use Rattle.c_stated.specs.Flows.{FlowReached}
use Rattle.c_stated.proofs.Ahead.{Ahead, ahead_then, ahead_gives, ahead_paid}
use Rattle.c_stated.proofs.Flowing.{jumped, jump_comes, left_spent, flow_then}

-- a test has come to one of two places
abbrev pub TestReached : Setting → List Extent → State → Memory → (bp d : ℕ) → (good other : Place) → Bool → State → Place → Machine → Type 0
TestReached S bs st mem bp d good other b st1 s1 m1 = Reached S bs st mem bp d (if b then good else other) (λ (b : Bool) bs m. Unit {0}) b st1 s1 m1

-- a step has come to where a jump leads to the test
pub record StepReached (S : Setting) (bs : List Extent) (st : State) (mem : Memory) (bp d again : ℕ) (v : Unit {0}) (st1 : State) (s1 : Place) (m1 : Machine) : Type 0 where
  pub at : Has S.program s1 (Jump (constant again))
  pub bases : List Extent
  pub left : Left S bs st mem bp d bases st1 m1

module _ (S : Setting) (inner : Bool) (worth : ℕ) (unit : UnitPays S.mode inner worth) (d n : ℕ) (test : Run Bool) (body : Run Flow) (again cont end : ℕ) (good p2 : Place) (c1 cb : ℕ) (again_small : again < 2 ^ 24) (cont_small : cont < 2 ^ 24) (end_small : end < 2 ^ 24) (inside : good.block < length S.program.blocks) (next : Has S.program p2 (Jump (constant cont)))
    (test_at : (bs : List Extent) (st : State) (m : Machine) → Ready S bs st m d n → F S (here (front again) m st) (fuel_of st) c1 (test st) (TestReached S bs st m.memory m.regs.bp d good (front end)))
    (body_at : (bs : List Extent) (st : State) (m : Machine) → Ready S bs st m d n → F S (here good m st) (fuel_of st) cb (body st) (FlowReached S bs st m.memory m.regs.bp d (targets end cont) p2)) where
  -- behind a body that broke
  broken : (bs bs3 : List Extent) (st st3 : State) (mem : Memory) (bp : ℕ) (s3 : Place) (m3 : Machine) (to : Targets) (c : ℕ) → 1 ≤ c → Has S.program s3 (Jump (constant end)) → Left S bs st mem bp d bs3 st3 m3 → F S (here s3 m3 st3) (fuel_of st3) c (give Next st3) (FlowReached S bs st mem bp d to (front end))
  broken bs bs3 st st3 mem bp s3 m3 to c le has l =
      first_then S.program S.input S.mode 1 0 c (give Next st3) _ (jump_comes S s3 m3 st3 (fuel_of st3) end has end_small)
      (give_follows S.program S.input S.mode Next (front end) m3 st3 0 (FlowReached S bs st mem bp d to (front end)) (record { goes = refl; bases = bs3; left = l; means = tt })) (omega (arith, le))

  -- or that has returned
  given_back : (bs bs1 : List Extent) (st st1 : State) (mem : Memory) (m1 : Machine) (bp : ℕ) (to to1 : Targets) (end1 end2 : Place) (v : Value) (st3 : State) (s3 : Place) (m3 : Machine) (c : ℕ) → Left S bs st mem bp d bs1 st1 m1 → FlowReached S bs1 st1 m1.memory m1.regs.bp d to1 end1 (Returned v) st3 s3 m3
      → F S (here s3 m3 st3) (fuel_of st3) c (give (Returned v) st3) (FlowReached S bs st mem bp d to end2)
  given_back bs bs1 st st1 mem m1 bp to to1 end1 end2 v st3 s3 m3 c l q =
      give_follows S.program S.input S.mode (Returned v) s3 m3 st3 c (FlowReached S bs st mem bp d to end2) (record { goes = q.goes; bases = q.bases; left = left_then S bs bs1 q.bases st st1 st3 mem m1 m3 bp d l q.left; means = q.means })

  -- ---- with the test before the body

  module _ (step : Run (Unit {0})) (cs : ℕ) (pays : cb + (cs + (1 + c1)) ≤ worth)
      (step_at : (p : Place) → Has S.program p (Jump (constant cont)) → (bs : List Extent) (st : State) (m : Machine) → Ready S bs st m d n → F S (here p m st) (fuel_of st) cs (step st) (StepReached S bs st m.memory m.regs.bp d again)) where
    abbrev LoopLands : ℕ → Type 0
    LoopLands k =
        (p : Place) → Has S.program p (Jump (constant again)) → (bs : List Extent) (st : State) (m : Machine) → Ready S bs st m d n → S.mode.gauge (fuel_of st) < k → (to : Targets)
        → F S (here p m st) (fuel_of st) (1 + c1) (loop inner k test step body st) (FlowReached S bs st m.memory m.regs.bp d to (front end))

    -- behind the body
    turn_lands : (k : ℕ) → LoopLands k → (bs bs1 : List Extent) (st st1 : State) (m m1 : Machine) (to : Targets) → Ready S bs st m d n → Left S bs st m.memory m.regs.bp d bs1 st1 m1 → S.mode.gauge (fuel_of st1) ≤ S.mode.gauge (fuel_of st) → S.mode.gauge (fuel_of st1) < k
        → (flow : Flow) (st3 : State) (s3 : Place) (m3 : Machine) → S.mode.gauge (fuel_of st3) ≤ S.mode.gauge (fuel_of st1) → FlowReached S bs1 st1 m1.memory m1.regs.bp d (targets end cont) p2 flow st3 s3 m3
        → F S (here s3 m3 st3) (fuel_of st3) (cs + (1 + c1)) (turned flow (step >>= λ _. loop inner k test step body) st3) (FlowReached S bs st m.memory m.regs.bp d to (front end))
    unfolding turned
    turn_lands k again_lands bs bs1 st st1 m m1 to r l le less flow st3 s3 m3 le3 q = by flow q
      where
        on : (flow : Flow) → FlowReached S bs1 st1 m1.memory m1.regs.bp d (targets end cont) p2 flow st3 s3 m3 → Has S.program s3 (Jump (constant cont)) → F S (here s3 m3 st3) (fuel_of st3) (cs + (1 + c1)) ((step >>= λ _. loop inner k test step body) st3) (FlowReached S bs st m.memory m.regs.bp d to (front end))
        on flow q has =
            let l3 = left_then S bs bs1 q.bases st st1 st3 m.memory m1 m3 m.regs.bp d l q.left in
            let r3 = ready_later S bs q.bases st st3 m m3 d n r l3 (omega (arith, le3, le)) in
            then_follows S.program S.input S.mode (here s3 m3 st3) (fuel_of st3) cs (1 + c1) (cs + (1 + c1)) step st3 (λ _. loop inner k test step body) _ _ (step_at s3 has q.bases st3 m3 r3)
            (λ v st4 s4 m4 le4 q4.
            let l4 = left_then S bs q.bases q4.bases st st3 st4 m.memory m3 m4 m.regs.bp d l3 q4.left in
            let r4 = ready_later S bs q4.bases st st4 m m4 d n r l4 (omega (arith, le4, le3, le)) in
            wider S.program S.input S.mode (here s4 m4 st4) (fuel_of st4) (1 + c1) (1 + c1) (loop inner k test step body st4) _ _ (again_lands s4 q4.at q4.bases st4 m4 r4 (omega (arith, le4, le3, less)) to)
            (λ flow5 st5 s5 m5 q5. flow_then S bs q4.bases st st4 m.memory m4 m.regs.bp d to (front end) l4 flow5 st5 s5 m5 q5) (omega arith))
            (omega arith)

        by : (flow : Flow) → FlowReached S bs1 st1 m1.memory m1.regs.bp d (targets end cont) p2 flow st3 s3 m3 → F S (here s3 m3 st3) (fuel_of st3) (cs + (1 + c1)) (turned flow (step >>= λ _. loop inner k test step body) st3) (FlowReached S bs st m.memory m.regs.bp d to (front end))
        by Next q = on Next q (subst (λ z. Has S.program z (Jump (constant cont))) (sym q.goes) next)
        by Continued q = on Continued q q.goes
        by Broke q = broken bs q.bases st st3 m.memory m.regs.bp s3 m3 to (cs + (1 + c1)) (omega arith) q.goes (left_then S bs bs1 q.bases st st1 st3 m.memory m1 m3 m.regs.bp d l q.left)
        by (Returned v) q = given_back bs bs1 st st1 m.memory m1 m.regs.bp to (targets end cont) p2 (front end) v st3 s3 m3 (cs + (1 + c1)) l q

    pub loop_lands : (k : ℕ) → LoopLands k
    unfolding loop choose
    loop_lands zero p has bs st m r less to = absurd (omega (arith, less))
    loop_lands (suc k) p has bs st m r less to =
        let R = FlowReached S bs st m.memory m.regs.bp d to (front end) in
        let turn : Run Flow = body >>= λ flow. turned flow (step >>= λ _. loop inner k test step body) in
        ahead_then S.program S.input S.mode (here p m st) (here (front again) m st) (fuel_of st) c1 (1 + c1) test st (λ b. choose b (paid inner turn) (give Next)) (TestReached S bs st m.memory m.regs.bp d good (front end)) R (jumped S p m st again has again_small) (test_at bs st m r)
        (λ b st1 s1 m1 le ah q. arm k (loop_lands k) p bs st m r less to b st1 s1 m1 le ah q) (omega arith)
      where
        arm : (k : ℕ) → LoopLands k → (p : Place) (bs : List Extent) (st : State) (m : Machine) → Ready S bs st m d n → S.mode.gauge (fuel_of st) < suc k → (to : Targets) → (b : Bool) (st1 : State) (s1 : Place) (m1 : Machine) → S.mode.gauge (fuel_of st1) ≤ S.mode.gauge (fuel_of st)
            → Ahead S.program S.input S.mode (here p m st) (fuel_of st) (1 + c1) (here s1 m1 st1) (fuel_of st1) → TestReached S bs st m.memory m.regs.bp d good (front end) b st1 s1 m1
            → F S (here p m st) (fuel_of st) (1 + c1) (choose b (paid inner (body >>= λ flow. turned flow (step >>= λ _. loop inner k test step body))) (give Next) st1) (FlowReached S bs st m.memory m.regs.bp d to (front end))
        arm k ih p bs st m r less to true st1 s1 m1 le ah q =
            let ah1 = subst (λ z. Ahead S.program S.input S.mode (here p m st) (fuel_of st) (1 + c1) (here z m1 st1) (fuel_of st1)) q.place ah in
            ahead_paid S.program S.input S.mode (here p m st) (fuel_of st) (1 + c1) worth (cb + (cs + (1 + c1))) (1 + c1) inner (body >>= λ flow. turned flow (step >>= λ _. loop inner k test step body)) good m1 st1 _ unit ah1 inside
            (λ l i less1.
            let st2 : State = record st1 { left = l; spare = i } in
            let l2 = left_spent S bs q.bases st st1 m.memory m1 m.regs.bp d l i q.left in
            let r2 = ready_later S bs q.bases st st2 m m1 d n r l2 (omega (arith, less1, le)) in
            then_follows S.program S.input S.mode (here good m1 st2) (fuel_of st2) cb (cs + (1 + c1)) (cb + (cs + (1 + c1))) body st2 (λ flow. turned flow (step >>= λ _. loop inner k test step body)) _ _ (body_at q.bases st2 m1 r2)
            (λ flow st3 s3 m3 le3 q3. turn_lands k ih bs q.bases st st2 m m1 to r l2 (omega (arith, less1, le)) (omega (arith, less1, le, less)) flow st3 s3 m3 le3 q3)
            (omega arith))
            (omega (arith, pays)) (omega arith)
        arm k ih p bs st m r less to false st1 s1 m1 le ah q = ahead_gives S.program S.input S.mode (here p m st) (fuel_of st) (1 + c1) (1 + c1) Next s1 m1 st1 _ ah (omega arith) (record { goes = q.place; bases = q.bases; left = q.left; means = tt })

  -- ---- with the test behind the body, which begins in block `cont`

  module _ (pays : cb + (1 + c1) ≤ worth) (same : again ≡ cont) where
    abbrev DoLands : ℕ → Type 0
    DoLands k =
        (a : Moment Config) (x : Fuel) (c0 : ℕ) (bs : List Extent) (st : State) (m : Machine) → Ahead S.program S.input S.mode a x c0 (here good m st) (fuel_of st) → Ready S bs st m d n → S.mode.gauge (fuel_of st) < k → (to : Targets)
        → F S a x c0 (do_loop inner k test body st) (FlowReached S bs st m.memory m.regs.bp d to (front end))

    test_again : (k : ℕ) → DoLands k → (bs bs1 : List Extent) (st st1 : State) (m m1 : Machine) (to : Targets) → Ready S bs st m d n → Left S bs st m.memory m.regs.bp d bs1 st1 m1 → S.mode.gauge (fuel_of st1) ≤ S.mode.gauge (fuel_of st) → S.mode.gauge (fuel_of st1) < k
        → (flow : Flow) (st3 : State) (s3 : Place) (m3 : Machine) → S.mode.gauge (fuel_of st3) ≤ S.mode.gauge (fuel_of st1) → FlowReached S bs1 st1 m1.memory m1.regs.bp d (targets end cont) p2 flow st3 s3 m3
        → F S (here s3 m3 st3) (fuel_of st3) (1 + c1) (turned flow (test >>= λ b. choose b (do_loop inner k test body) (give Next)) st3) (FlowReached S bs st m.memory m.regs.bp d to (front end))
    unfolding turned choose
    test_again k ih bs bs1 st st1 m m1 to r l le less flow st3 s3 m3 le3 q = by flow q
      where
        on : (flow : Flow) → FlowReached S bs1 st1 m1.memory m1.regs.bp d (targets end cont) p2 flow st3 s3 m3 → Has S.program s3 (Jump (constant cont)) → F S (here s3 m3 st3) (fuel_of st3) (1 + c1) ((test >>= λ b. choose b (do_loop inner k test body) (give Next)) st3) (FlowReached S bs st m.memory m.regs.bp d to (front end))
        on flow q has =
            let l3 = left_then S bs bs1 q.bases st st1 st3 m.memory m1 m3 m.regs.bp d l q.left in
            let r3 = ready_later S bs q.bases st st3 m m3 d n r l3 (omega (arith, le3, le)) in
            let has1 = subst (λ z. Has S.program s3 (Jump (constant z))) (sym same) has in
            ahead_then S.program S.input S.mode (here s3 m3 st3) (here (front again) m3 st3) (fuel_of st3) c1 (1 + c1) test st3 (λ b. choose b (do_loop inner k test body) (give Next)) (TestReached S q.bases st3 m3.memory m3.regs.bp d good (front end)) _ (jumped S s3 m3 st3 again has1 again_small) (test_at q.bases st3 m3 r3)
            (λ b st4 s4 m4 le4 ah q4. arm q.bases l3 b st4 s4 m4 le4 ah q4) (omega arith)
          where
            arm : (bs3 : List Extent) → Left S bs st m.memory m.regs.bp d bs3 st3 m3 → (b : Bool) (st4 : State) (s4 : Place) (m4 : Machine) → S.mode.gauge (fuel_of st4) ≤ S.mode.gauge (fuel_of st3) → Ahead S.program S.input S.mode (here s3 m3 st3) (fuel_of st3) (1 + c1) (here s4 m4 st4) (fuel_of st4)
                → TestReached S bs3 st3 m3.memory m3.regs.bp d good (front end) b st4 s4 m4 → F S (here s3 m3 st3) (fuel_of st3) (1 + c1) (choose b (do_loop inner k test body) (give Next) st4) (FlowReached S bs st m.memory m.regs.bp d to (front end))
            arm bs3 l3 true st4 s4 m4 le4 ah q4 =
                let l4 = left_then S bs bs3 q4.bases st st3 st4 m.memory m3 m4 m.regs.bp d l3 q4.left in
                let r4 = ready_later S bs q4.bases st st4 m m4 d n r l4 (omega (arith, le4, le3, le)) in
                let ah1 = subst (λ z. Ahead S.program S.input S.mode (here s3 m3 st3) (fuel_of st3) (1 + c1) (here z m4 st4) (fuel_of st4)) q4.place ah in
                wider S.program S.input S.mode (here s3 m3 st3) (fuel_of st3) (1 + c1) (1 + c1) (do_loop inner k test body st4) _ _ (ih (here s3 m3 st3) (fuel_of st3) (1 + c1) q4.bases st4 m4 ah1 r4 (omega (arith, le4, le3, less)) to)
                (λ flow5 st5 s5 m5 q5. flow_then S bs q4.bases st st4 m.memory m4 m.regs.bp d to (front end) l4 flow5 st5 s5 m5 q5) (omega arith)
            arm bs3 l3 false st4 s4 m4 le4 ah q4 =
                ahead_gives S.program S.input S.mode (here s3 m3 st3) (fuel_of st3) (1 + c1) (1 + c1) Next s4 m4 st4 _ ah (omega arith) (record { goes = q4.place; bases = q4.bases; left = left_then S bs bs3 q4.bases st st3 st4 m.memory m3 m4 m.regs.bp d l3 q4.left; means = tt })

        by : (flow : Flow) → FlowReached S bs1 st1 m1.memory m1.regs.bp d (targets end cont) p2 flow st3 s3 m3 → F S (here s3 m3 st3) (fuel_of st3) (1 + c1) (turned flow (test >>= λ b. choose b (do_loop inner k test body) (give Next)) st3) (FlowReached S bs st m.memory m.regs.bp d to (front end))
        by Next q = on Next q (subst (λ z. Has S.program z (Jump (constant cont))) (sym q.goes) next)
        by Continued q = on Continued q q.goes
        by Broke q = broken bs q.bases st st3 m.memory m.regs.bp s3 m3 to (1 + c1) (omega arith) q.goes (left_then S bs bs1 q.bases st st1 st3 m.memory m1 m3 m.regs.bp d l q.left)
        by (Returned v) q = given_back bs bs1 st st1 m.memory m1 m.regs.bp to (targets end cont) p2 (front end) v st3 s3 m3 (1 + c1) l q

    pub do_lands : (k : ℕ) → DoLands k
    unfolding do_loop
    do_lands zero a x c0 bs st m ah r less to = absurd (omega (arith, less))
    do_lands (suc k) a x c0 bs st m ah r less to =
        ahead_paid S.program S.input S.mode a x c0 worth (cb + (1 + c1)) c0 inner (body >>= λ flow. turned flow (test >>= λ b. choose b (do_loop inner k test body) (give Next))) good m st _ unit ah inside
        (λ l i less1.
        let st2 : State = record st { left = l; spare = i } in
        let l2 = left_spent S bs bs st st m.memory m m.regs.bp d l i (left_here S bs st m d n r) in
        let r2 = ready_later S bs bs st st2 m m d n r l2 (omega (arith, less1)) in
        then_follows S.program S.input S.mode (here good m st2) (fuel_of st2) cb (1 + c1) (cb + (1 + c1)) body st2 (λ flow. turned flow (test >>= λ b. choose b (do_loop inner k test body) (give Next))) _ _ (body_at bs st2 m r2)
        (λ flow st3 s3 m3 le3 q3. test_again k (do_lands k) bs bs st st2 m m to r l2 (omega (arith, less1)) (omega (arith, less1, less)) flow st3 s3 m3 le3 q3)
        (omega arith))
        (omega (arith, pays)) (omega arith)
