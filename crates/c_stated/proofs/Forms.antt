-- The forms of statements, from their parts, where the names in scope are given.
use Rattle.std.proofs.Common.{◌≡◌, ℕ, suc, ◌+◌, ◌^◌, ◌<◌, ◌≤◌, Bool, true, false, List, [], ◌++◌, refl, sym, ap, ◌∙◌, subst, arith}
use Rattle.eir_core.specs.declared.ops.Op.{Op}
use Rattle.eir_core.specs.declared.ops.Op.TheVariants.{Jump}
use Rattle.c_eval.specs.State.{State, Run}
use Rattle.c_eval.specs.Run.{◌>>=◌, give, choose}
use Rattle.c_eval.specs.Eval.{Flow, Next, Broke, Continued, Returned, go_on, loop, do_loop}
use Rattle.c_place.specs.Code.{jumps}
use Rattle.c_place.specs.Place.{Place, Machine, front, Has, Stands, behind_all}
use Rattle.c_place.proofs.Running.{behind_append, behind_block, stands_first, stands_rest}
use Rattle.c_lowered.specs.Operations.{constant}
use Rattle.c_lowered.specs.Statements.{Targets, targets, jump_to}
use Rattle.c_memory.specs.Follows.{fuel_of, here}
use Rattle.c_memory.specs.Lies.{Extent}
use Rattle.c_memory.proofs.Following.{first_then, then_follows, give_follows, wider}
use Rattle.c_landing.specs.Landing.{Setting, Ready, Left, Reached}
use Rattle.c_landing.proofs.Landing.{F, from_place, ready_later, left_here}
use Rattle.c_valued.specs.Calls.{UnitPays}
use Rattle.c_stated.specs.Flows.{FlowReached}
use Rattle.c_stated.proofs.Ahead.{ahead_one}
use Rattle.c_stated.proofs.Flowing.{jumped, jump_comes, flow_then}
use Rattle.c_stated.proofs.Loops.{TestReached, StepReached, loop_lands, do_lands}
use Rattle.c_stated.proofs.Parts.{flow_jump, stands_inside}

module _ (S : Setting) (d n : ℕ) where
  -- code of a test in a block, which leads behind itself where it holds, and else to another block
  abbrev pub TestAt : List Op → (block c target : ℕ) → Run Bool → Type 0
  TestAt code block c target test =
      (s : Place) (bs : List Extent) (st : State) (m : Machine) → s.block ≡ block → Stands S.program s code → Ready S bs st m d n → F S (here s m st) (fuel_of st) c (test st) (TestReached S bs st m.memory m.regs.bp d (behind_all s code) (front target))

  -- code of a statement in a block
  abbrev pub BodyAt : List Op → (block c : ℕ) → Run Flow → Targets → Type 0
  BodyAt code block c body to =
      (s : Place) (bs : List Extent) (st : State) (m : Machine) → s.block ≡ block → Stands S.program s code → Ready S bs st m d n → F S (here s m st) (fuel_of st) c (body st) (FlowReached S bs st m.memory m.regs.bp d to (behind_all s code))

  -- code of what is run for what it does
  abbrev pub StepAt : List Op → (block c : ℕ) → Run (Unit {0}) → Type 0
  StepAt code block c step =
      (s : Place) (bs : List Extent) (st : State) (m : Machine) → s.block ≡ block → Stands S.program s code → Ready S bs st m d n → F S (here s m st) (fuel_of st) c (step st) (Reached S bs st m.memory m.regs.bp d (behind_all s code) (λ v bs m. Unit {0}))

  -- ---- one behind the other

  pub go_on_follows : (one two : List Op) (block c1 c2 : ℕ) (first second : Run Flow) (to : Targets) (s : Place) (bs : List Extent) (st : State) (m : Machine) → s.block ≡ block → Stands S.program s (one ++ two) → Ready S bs st m d n
      → F S (here s m st) (fuel_of st) c1 (first st) (FlowReached S bs st m.memory m.regs.bp d to (behind_all s one))
      → ((s1 : Place) (bs1 : List Extent) (st1 : State) (m1 : Machine) → s1.block ≡ block + jumps one → Stands S.program s1 two → Ready S bs1 st1 m1 d n → Left S bs st m.memory m.regs.bp d bs1 st1 m1 → F S (here s1 m1 st1) (fuel_of st1) c2 (second st1) (FlowReached S bs1 st1 m1.memory m1.regs.bp d to (behind_all s1 two)))
      → F S (here s m st) (fuel_of st) (c1 + c2) ((first >>= λ flow. go_on flow second) st) (FlowReached S bs st m.memory m.regs.bp d to (behind_all s (one ++ two)))
  unfolding go_on
  go_on_follows one two block c1 c2 first second to s bs st m e stands r f g =
      subst (λ z. F S (here s m st) (fuel_of st) (c1 + c2) ((first >>= λ flow. go_on flow second) st) (FlowReached S bs st m.memory m.regs.bp d to z)) (sym (behind_append s one two))
      (then_follows S.program S.input S.mode (here s m st) (fuel_of st) c1 c2 (c1 + c2) first st (λ flow. go_on flow second) (FlowReached S bs st m.memory m.regs.bp d to (behind_all s one)) (FlowReached S bs st m.memory m.regs.bp d to (behind_all (behind_all s one) two)) f
      (λ flow st1 s1 m1 le q. by flow st1 s1 m1 le q) (omega arith))
    where
      by : (flow : Flow) (st1 : State) (s1 : Place) (m1 : Machine) → S.mode.gauge (fuel_of st1) ≤ S.mode.gauge (fuel_of st) → FlowReached S bs st m.memory m.regs.bp d to (behind_all s one) flow st1 s1 m1
          → F S (here s1 m1 st1) (fuel_of st1) c2 (go_on flow second st1) (FlowReached S bs st m.memory m.regs.bp d to (behind_all (behind_all s one) two))
      by Next st1 s1 m1 le q =
          from_place S m1 st1 c2 (second st1) _ q.goes
          (wider S.program S.input S.mode (here (behind_all s one) m1 st1) (fuel_of st1) c2 c2 (second st1) _ _
          (g (behind_all s one) q.bases st1 m1 (behind_block s one ∙ ap (λ z. z + jumps one) e) (stands_rest S.program s one two stands) (ready_later S bs q.bases st st1 m m1 d n r q.left le) q.left)
          (λ flow2 st2 s2 m2 q2. flow_then S bs q.bases st st1 m.memory m1 m.regs.bp d to (behind_all (behind_all s one) two) q.left flow2 st2 s2 m2 q2) (omega arith))
      by Broke st1 s1 m1 le q = give_follows S.program S.input S.mode Broke s1 m1 st1 c2 _ (record { goes = q.goes; bases = q.bases; left = q.left; means = tt })
      by Continued st1 s1 m1 le q = give_follows S.program S.input S.mode Continued s1 m1 st1 c2 _ (record { goes = q.goes; bases = q.bases; left = q.left; means = tt })
      by (Returned v) st1 s1 m1 le q = give_follows S.program S.input S.mode (Returned v) s1 m1 st1 c2 _ (record { goes = q.goes; bases = q.bases; left = q.left; means = q.means })

  -- ---- branches

  pub if_follows : (test body : List Op) (block c1 c2 end : ℕ) (rt : Run Bool) (rb : Run Flow) (to : Targets) → end ≡ block + jumps test + jumps body + 1 → end < 2 ^ 24 → TestAt test block c1 end rt → BodyAt body (block + jumps test) c2 rb to → BodyAt (test ++ (body ++ jump_to end)) block (c1 + (c2 + 1)) (rt >>= λ b. choose b rb (give Next)) to
  unfolding choose
  if_follows test body block c1 c2 end rt rb to is lt ht hb s bs st m e stands r =
      let p1 = behind_all s test in
      let p2 = behind_all p1 body in
      let s1 = stands_rest S.program s test (body ++ jump_to end) stands in
      let has = (stands_rest S.program p1 body (jump_to end) s1).0 in
      let b1 : p1.block ≡ block + jumps test = behind_block s test ∙ ap (λ z. z + jumps test) e in
      let ends : behind_all s (test ++ (body ++ jump_to end)) ≡ front end = behind_append s test (body ++ jump_to end) ∙ (behind_append p1 body (jump_to end) ∙ ap front (omega (arith, behind_block p1 body, b1, is))) in
      subst (λ z. F S (here s m st) (fuel_of st) (c1 + (c2 + 1)) ((rt >>= λ b. choose b rb (give Next)) st) (FlowReached S bs st m.memory m.regs.bp d to z)) (sym ends)
      (then_follows S.program S.input S.mode (here s m st) (fuel_of st) c1 (c2 + 1) (c1 + (c2 + 1)) rt st (λ b. choose b rb (give Next)) (TestReached S bs st m.memory m.regs.bp d p1 (front end)) (FlowReached S bs st m.memory m.regs.bp d to (front end)) (ht s bs st m e (stands_first S.program s test (body ++ jump_to end) stands) r)
      (λ b st1 t1 m1 le q. by p1 (stands_first S.program p1 body (jump_to end) s1) has b1 b st1 t1 m1 le q) (omega arith))
    where
      by : (p1 : Place) → Stands S.program p1 body → Has S.program (behind_all p1 body) (Jump (constant end)) → p1.block ≡ block + jumps test → (b : Bool) (st1 : State) (t1 : Place) (m1 : Machine) → S.mode.gauge (fuel_of st1) ≤ S.mode.gauge (fuel_of st) → TestReached S bs st m.memory m.regs.bp d p1 (front end) b st1 t1 m1
          → F S (here t1 m1 st1) (fuel_of st1) (c2 + 1) (choose b rb (give Next) st1) (FlowReached S bs st m.memory m.regs.bp d to (front end))
      by p1 sb has b1 true st1 t1 m1 le q =
          from_place S m1 st1 (c2 + 1) (rb st1) _ q.place
          (wider S.program S.input S.mode (here p1 m1 st1) (fuel_of st1) (c2 + 1) (c2 + 1) (rb st1) _ _
          (flow_jump S (here p1 m1 st1) (fuel_of st1) c2 end (rb st1) q.bases st1 m1.memory m1.regs.bp d to (behind_all p1 body) has lt (hb p1 q.bases st1 m1 b1 sb (ready_later S bs q.bases st st1 m m1 d n r q.left le)))
          (λ flow2 st2 s2 m2 q2. flow_then S bs q.bases st st1 m.memory m1 m.regs.bp d to (front end) q.left flow2 st2 s2 m2 q2) (omega arith))
      by p1 sb has b1 false st1 t1 m1 le q = give_follows S.program S.input S.mode Next t1 m1 st1 (c2 + 1) _ (record { goes = q.place; bases = q.bases; left = q.left; means = tt })

  pub branches_follow : (test one other : List Op) (block c1 c2 c3 next end : ℕ) (rt : Run Bool) (ra rb : Run Flow) (to : Targets) → next ≡ block + jumps test + jumps one + 1 → end ≡ next + jumps other + 1 → end < 2 ^ 24 → TestAt test block c1 next rt → BodyAt one (block + jumps test) c2 ra to → BodyAt other next c3 rb to
      → BodyAt (test ++ (one ++ (jump_to end ++ (other ++ jump_to end)))) block (c1 + (c2 + c3 + 1)) (rt >>= λ b. choose b ra rb) to
  unfolding choose
  branches_follow test one other block c1 c2 c3 next end rt ra rb to it is lt ht ha hb s bs st m e stands r =
      let last = other ++ jump_to end in
      let rest = one ++ (jump_to end ++ last) in
      let p1 = behind_all s test in
      let p2 = behind_all p1 one in
      let p3 = front (suc p2.block) in
      let p4 = behind_all p3 other in
      let s1 = stands_rest S.program s test rest stands in
      let s2 = stands_rest S.program p1 one (jump_to end ++ last) s1 in
      let s4 = stands_rest S.program p3 other (jump_to end) s2.1 in
      let b1 : p1.block ≡ block + jumps test = behind_block s test ∙ ap (λ z. z + jumps test) e in
      let b3 : p3.block ≡ next = omega (arith, behind_block p1 one, b1, it) in
      let ends : behind_all s (test ++ rest) ≡ front end = behind_append s test rest ∙ (behind_append p1 one (jump_to end ++ last) ∙ (behind_append p3 other (jump_to end) ∙ ap front (omega (arith, behind_block p3 other, b3, is)))) in
      subst (λ z. F S (here s m st) (fuel_of st) (c1 + (c2 + c3 + 1)) ((rt >>= λ b. choose b ra rb) st) (FlowReached S bs st m.memory m.regs.bp d to z)) (sym ends)
      (then_follows S.program S.input S.mode (here s m st) (fuel_of st) c1 (c2 + c3 + 1) (c1 + (c2 + c3 + 1)) rt st (λ b. choose b ra rb) (TestReached S bs st m.memory m.regs.bp d p1 (front next)) (FlowReached S bs st m.memory m.regs.bp d to (front end)) (ht s bs st m e (stands_first S.program s test rest stands) r)
      (λ b st1 t1 m1 le q. by p1 (suc p2.block) (stands_first S.program p1 one (jump_to end ++ last) s1) s2.0 (stands_first S.program p3 other (jump_to end) s2.1) s4.0 b1 b3 b st1 t1 m1 le q) (omega arith))
    where
      arm : (p : Place) (code : List Op) (block c : ℕ) (run : Run Flow) → BodyAt code block c run to → Stands S.program p code → Has S.program (behind_all p code) (Jump (constant end)) → p.block ≡ block → c ≤ c2 + c3 → (bs1 : List Extent) (st1 : State) (m1 : Machine) → S.mode.gauge (fuel_of st1) ≤ S.mode.gauge (fuel_of st) → Left S bs st m.memory m.regs.bp d bs1 st1 m1
          → F S (here p m1 st1) (fuel_of st1) (c2 + c3 + 1) (run st1) (FlowReached S bs st m.memory m.regs.bp d to (front end))
      arm p code block c run h sb has b lc bs1 st1 m1 le l =
          wider S.program S.input S.mode (here p m1 st1) (fuel_of st1) (c + 1) (c2 + c3 + 1) (run st1) _ _
          (flow_jump S (here p m1 st1) (fuel_of st1) c end (run st1) bs1 st1 m1.memory m1.regs.bp d to (behind_all p code) has lt (h p bs1 st1 m1 b sb (ready_later S bs bs1 st st1 m m1 d n r l le)))
          (λ flow2 st2 s2 m2 q2. flow_then S bs bs1 st st1 m.memory m1 m.regs.bp d to (front end) l flow2 st2 s2 m2 q2) (omega (arith, lc))

      by : (p1 : Place) (x3 : ℕ) → Stands S.program p1 one → Has S.program (behind_all p1 one) (Jump (constant end)) → Stands S.program (front x3) other → Has S.program (behind_all (front x3) other) (Jump (constant end)) → p1.block ≡ block + jumps test → x3 ≡ next
          → (b : Bool) (st1 : State) (t1 : Place) (m1 : Machine) → S.mode.gauge (fuel_of st1) ≤ S.mode.gauge (fuel_of st) → TestReached S bs st m.memory m.regs.bp d p1 (front next) b st1 t1 m1
          → F S (here t1 m1 st1) (fuel_of st1) (c2 + c3 + 1) (choose b ra rb st1) (FlowReached S bs st m.memory m.regs.bp d to (front end))
      by p1 x3 k1 j1 k3 j3 b1 b3 true st1 t1 m1 le q = from_place S m1 st1 (c2 + c3 + 1) (ra st1) _ q.place (arm p1 one (block + jumps test) c2 ra ha k1 j1 b1 (omega arith) q.bases st1 m1 le q.left)
      by p1 x3 k1 j1 k3 j3 b1 b3 false st1 t1 m1 le q = from_place S m1 st1 (c2 + c3 + 1) (rb st1) _ (q.place ∙ ap front (sym b3)) (arm (front x3) other next c3 rb hb k3 j3 b3 (omega arith) q.bases st1 m1 le q.left)

  -- ---- loops

  module _ (inner : Bool) (worth : ℕ) (unit : UnitPays S.mode inner worth) where
    -- a loop with its test before the body, which leads back at once
    pub while_follows : (test body : List Op) (block c1 cb again end : ℕ) (rt : Run Bool) (rb : Run Flow) (to : Targets) → again ≡ block + 1 → end ≡ again + jumps test + jumps body + 1 → end < 2 ^ 24 → cb + (0 + (1 + c1)) ≤ worth → TestAt test again c1 end rt → BodyAt body (again + jumps test) cb rb (targets end again)
        → BodyAt (jump_to again ++ (test ++ (body ++ jump_to again))) block (1 + c1) (loop inner S.deep rt (give tt) rb) to
    while_follows test body block c1 cb again end rt rb to ia ie lt pays ht hb s bs st m e stands r =
        let rest = test ++ (body ++ jump_to again) in
        let s0 = front again in
        let same : front (suc s.block) ≡ s0 = ap front (omega (arith, e, ia)) in
        let k0 = subst (λ z. Stands S.program z rest) same stands.1 in
        let good = behind_all s0 test in
        let p2 = behind_all good body in
        let k1 = stands_rest S.program s0 test (body ++ jump_to again) k0 in
        let k2 = (stands_rest S.program good body (jump_to again) k1).0 in
        let b1 : good.block ≡ again + jumps test = behind_block s0 test in
        let ends : behind_all (front (suc s.block)) rest ≡ front end = ap (λ z. behind_all z rest) same ∙ (behind_append s0 test (body ++ jump_to again) ∙ (behind_append good body (jump_to again) ∙ ap front (omega (arith, behind_block good body, b1, ie)))) in
        subst (λ z. F S (here s m st) (fuel_of st) (1 + c1) (loop inner S.deep rt (give tt) rb st) (FlowReached S bs st m.memory m.regs.bp d to z)) (sym ends)
        (loop_lands S inner worth unit d n rt rb again again end good p2 c1 cb (omega (arith, ie, lt)) (omega (arith, ie, lt)) lt (stands_inside S.program good body [] (Jump (constant again)) k1) k2
        (λ bs1 st1 m1 r1. ht s0 bs1 st1 m1 refl (stands_first S.program s0 test (body ++ jump_to again) k0) r1) (λ bs1 st1 m1 r1. hb good bs1 st1 m1 b1 (stands_first S.program good body (jump_to again) k1) r1)
        (give tt) 0 pays (λ p has bs1 st1 m1 r1. give_follows S.program S.input S.mode tt p m1 st1 0 (StepReached S bs1 st1 m1.memory m1.regs.bp d again) (record { at = has; bases = bs1; left = left_here S bs1 st1 m1 d n r1 }))
        S.deep s stands.0 bs st m r r.fuelled to)

    -- one with a step behind the body
    pub for_follows : (test body step : List Op) (block c1 cb cs again stepping end : ℕ) (rt : Run Bool) (rb : Run Flow) (rs : Run (Unit {0})) (to : Targets) → again ≡ block + 1 → stepping ≡ again + jumps test + jumps body + 1 → end ≡ stepping + jumps step + 1 → end < 2 ^ 24 → cb + ((1 + cs) + (1 + c1)) ≤ worth
        → TestAt test again c1 end rt → BodyAt body (again + jumps test) cb rb (targets end stepping) → StepAt step stepping cs rs
        → BodyAt (jump_to again ++ (test ++ (body ++ (jump_to stepping ++ (step ++ jump_to again))))) block (1 + c1) (loop inner S.deep rt rs rb) to
    for_follows test body step block c1 cb cs again stepping end rt rb rs to ia ip ie lt pays ht hb hs s bs st m e stands r =
        let last = step ++ jump_to again in
        let rest = test ++ (body ++ (jump_to stepping ++ last)) in
        let s0 = front again in
        let same : front (suc s.block) ≡ s0 = ap front (omega (arith, e, ia)) in
        let k0 = subst (λ z. Stands S.program z rest) same stands.1 in
        let good = behind_all s0 test in
        let p2 = behind_all good body in
        let p3 = front (suc p2.block) in
        let p4 = behind_all p3 step in
        let k1 = stands_rest S.program s0 test (body ++ (jump_to stepping ++ last)) k0 in
        let k2 = stands_rest S.program good body (jump_to stepping ++ last) k1 in
        let k3 = stands_rest S.program p3 step (jump_to again) k2.1 in
        let b1 : good.block ≡ again + jumps test = behind_block s0 test in
        let b3 : p3.block ≡ stepping = omega (arith, behind_block good body, b1, ip) in
        let small : stepping < 2 ^ 24 = omega (arith, ie, lt) in
        let ends : behind_all (front (suc s.block)) rest ≡ front end =
        ap (λ z. behind_all z rest) same ∙ (behind_append s0 test (body ++ (jump_to stepping ++ last)) ∙ (behind_append good body (jump_to stepping ++ last) ∙ (behind_append p3 step (jump_to again) ∙ ap front (omega (arith, behind_block p3 step, b3, ie))))) in
        subst (λ z. F S (here s m st) (fuel_of st) (1 + c1) (loop inner S.deep rt rs rb st) (FlowReached S bs st m.memory m.regs.bp d to z)) (sym ends)
        (loop_lands S inner worth unit d n rt rb again stepping end good p2 c1 cb (omega (arith, ip, ie, lt)) small lt (stands_inside S.program good body last (Jump (constant stepping)) k1) k2.0
        (λ bs1 st1 m1 r1. ht s0 bs1 st1 m1 refl (stands_first S.program s0 test (body ++ (jump_to stepping ++ last)) k0) r1) (λ bs1 st1 m1 r1. hb good bs1 st1 m1 b1 (stands_first S.program good body (jump_to stepping ++ last) k1) r1)
        rs (1 + cs) pays
        (λ p has bs1 st1 m1 r1.
        let there : front stepping ≡ p3 = ap front (sym b3) in
        first_then S.program S.input S.mode 1 cs (1 + cs) (rs st1) (StepReached S bs1 st1 m1.memory m1.regs.bp d again) (jump_comes S p m1 st1 (fuel_of st1) stepping has small)
        (from_place S m1 st1 cs (rs st1) _ there
        (wider S.program S.input S.mode (here p3 m1 st1) (fuel_of st1) cs cs (rs st1) (Reached S bs1 st1 m1.memory m1.regs.bp d p4 (λ v bs m. Unit {0})) (StepReached S bs1 st1 m1.memory m1.regs.bp d again) (hs p3 bs1 st1 m1 b3 (stands_first S.program p3 step (jump_to again) k2.1) r1)
        (λ v st2 s2 m2 q. record { at = subst (λ z. Has S.program z (Jump (constant again))) (sym q.place) k3.0; bases = q.bases; left = q.left }) (omega arith))) (omega arith))
        S.deep s stands.0 bs st m r r.fuelled to)

    -- and one with its test behind the body
    pub do_follows : (body test : List Op) (block c1 cb first again end : ℕ) (rt : Run Bool) (rb : Run Flow) (to : Targets) → first ≡ block + 1 → again ≡ first + jumps body + 1 → end ≡ again + jumps test → end < 2 ^ 24 → cb + (1 + c1) ≤ worth
        → ((s : Place) → behind_all s test ≡ front (s.block + jumps test)) → BodyAt body first cb rb (targets end again)
        → ((s : Place) (bs : List Extent) (st : State) (m : Machine) → s.block ≡ again → Stands S.program s test → Ready S bs st m d n → F S (here s m st) (fuel_of st) c1 (rt st) (TestReached S bs st m.memory m.regs.bp d (front first) (behind_all s test)))
        → BodyAt (jump_to first ++ (body ++ (jump_to again ++ test))) block 1 (do_loop inner S.deep rt rb) to
    do_follows body test block c1 cb first again end rt rb to ib ia ie lt pays ends hb ht s bs st m e stands r =
        let rest = body ++ (jump_to again ++ test) in
        let good = front first in
        let same : front (suc s.block) ≡ good = ap front (omega (arith, e, ib)) in
        let k0 = subst (λ z. Stands S.program z rest) same stands.1 in
        let p2 = behind_all good body in
        let p3 = front (suc p2.block) in
        let k1 = stands_rest S.program good body (jump_to again ++ test) k0 in
        let b3 : suc p2.block ≡ again = omega (arith, behind_block good body, ia) in
        let there : p3 ≡ front again = ap front b3 in
        let k3 = subst (λ z. Stands S.program z test) there k1.1 in
        let stop : behind_all (front again) test ≡ front end = ends (front again) ∙ ap front (sym ie) in
        let over : behind_all (front (suc s.block)) rest ≡ front end = ap (λ z. behind_all z rest) same ∙ (behind_append good body (jump_to again ++ test) ∙ (ap (λ z. behind_all z test) there ∙ stop)) in
        let small : again < 2 ^ 24 = omega (arith, ie, lt) in
        subst (λ z. F S (here s m st) (fuel_of st) 1 (do_loop inner S.deep rt rb st) (FlowReached S bs st m.memory m.regs.bp d to z)) (sym over)
        (do_lands S inner worth unit d n rt rb again again end good p2 c1 cb small small lt (stands_inside S.program good body test (Jump (constant again)) k0) k1.0
        (λ bs1 st1 m1 r1. subst (λ z. F S (here (front again) m1 st1) (fuel_of st1) c1 (rt st1) (TestReached S bs1 st1 m1.memory m1.regs.bp d good z)) stop (ht (front again) bs1 st1 m1 refl k3 r1)) (λ bs1 st1 m1 r1. hb good bs1 st1 m1 refl (stands_first S.program good body (jump_to again ++ test) k0) r1)
        pays refl S.deep (here s m st) (fuel_of st) 1 bs st m (ahead_one S.program S.input S.mode (fuel_of st) (jumped S s m st first stands.0 (omega (arith, ia, small)))) r r.fuelled to)
