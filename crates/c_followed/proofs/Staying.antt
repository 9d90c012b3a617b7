-- No flow leaves by a `break` or a `continue` that stands in a loop.
use Rattle.std.proofs.Common.{ℕ, zero, suc, Bool, true, false, List, Option, Some, None, if◌then◌else◌}
use Rattle.c_syntax.specs.Plain.{CExpr, CStmt, Block, Local, Do_expr, Empty, If, IfElse, While, Do, For, Return, Break, Continue, Switch, CStmts, NoStmt, MoreStmt, CPart, Label, Item, CParts, NoPart, MorePart}
use Rattle.c_eval.specs.State.{Value, Word, Null, Point, Letter, Function, Missing, Cell, State, Outcome, Gives, Ended, Going, Undefined, Run}
use Rattle.c_eval.specs.Run.{◌>>=◌, after, give, undefined, choose, spend, spend_spare, paid, stop, objects_now, with_objects}
use Rattle.c_eval.specs.Memory.{enter, leave, within}
use Rattle.c_eval.specs.Operators.{of_word}
use Rattle.c_eval.specs.Environment.{Environment, past, past_maybe, past_stmt, behind_all, in_block, Target, is_target}
use Rattle.c_eval.specs.Eval.{World, Flow, Next, Broke, Continued, Returned, go_on, turned, behind_switch, loop, do_loop, maybe_condition, maybe_effect, returned, does, all_do, part_does, parts_do, parts_from}
use Rattle.c_followed.specs.Breaks.{BreaksAreIn, AllBreaksAreIn, PartBreaksIn, PartsBreakIn, MayLeave, Leaves}

module _ (b c : Bool) where
  -- ---- the words from which runs are made

  then_leaves : {X : Type 0} (o : Outcome X) (k : X → Run Flow) → ((v : X) (st : State) → Leaves b c (k v st)) → Leaves b c (after o k)
  unfolding after
  then_leaves (Gives v st) k f = f v st
  then_leaves (Ended st) k f = tt
  then_leaves (Going st) k f = tt
  then_leaves (Undefined act st) k f = tt

  run_leaves : {X : Type 0} (m : Run X) (k : X → Run Flow) (st : State) → ((v : X) (st : State) → Leaves b c (k v st)) → Leaves b c ((m >>= k) st)
  unfolding ◌>>=◌
  run_leaves m k st f = then_leaves (m st) k f

  -- behind a flow of which something is known
  flow_leaves : (p q : Bool) (m : Run Flow) (k : Flow → Run Flow) (st : State) → Leaves p q (m st) → ((flow : Flow) (st : State) → MayLeave p q flow → Leaves b c (k flow st)) → Leaves b c ((m >>= k) st)
  unfolding ◌>>=◌ after
  flow_leaves p q m k st h f = by (m st) h
    where
      by : (o : Outcome Flow) → Leaves p q o → Leaves b c (after o k)
      by (Gives flow st1) h = f flow st1 h
      by (Ended st1) h = tt
      by (Going st1) h = tt
      by (Undefined act st1) h = tt

  paid_leaves : (inner : Bool) (m : Run Flow) (st : State) → ((st : State) → Leaves b c (m st)) → Leaves b c (paid inner m st)
  unfolding paid spend spend_spare
  paid_leaves false m st f = by st.left
    where
      by : (l : ℕ) → Leaves b c (spend m l st)
      by zero = tt
      by (suc l) = f (record st { left = l })
  paid_leaves true m st f = by st.spare
    where
      by : (n : ℕ) → Leaves b c (spend_spare m n st)
      by zero = tt
      by (suc n) = f (record st { spare = n })

  chosen_leaves : (t : Bool) (m n : Run Flow) (st : State) → Leaves b c (m st) → Leaves b c (n st) → Leaves b c (choose t m n st)
  unfolding choose
  chosen_leaves true m n st f g = f
  chosen_leaves false m n st f g = g

  next_leaves : (st : State) → Leaves b c (give Next st)
  unfolding give
  next_leaves st = tt

  within_leaves : (new : List (List Cell)) (body : ℕ → Run Flow) (st : State) → ((n : ℕ) (st : State) → Leaves b c (body n st)) → Leaves b c (within new body st)
  unfolding within enter leave objects_now with_objects ◌>>=◌ after give
  within_leaves new body st f = run_leaves (enter new) (λ n. body n >>= λ a. leave n >>= λ _. give a) st (λ n st1. flow_leaves b c (body n) (λ a. leave n >>= λ _. give a) st1 (f n st1) (λ flow st2 h. run_leaves (leave n) (λ _. give flow) st2 (λ v st3. h)))

  go_on_leaves : (m n : Run Flow) (st : State) → Leaves b c (m st) → ((st : State) → Leaves b c (n st)) → Leaves b c ((m >>= λ flow. go_on flow n) st)
  unfolding go_on give
  go_on_leaves m n st f g = flow_leaves b c m (λ flow. go_on flow n) st f by
    where
      by : (flow : Flow) (st : State) → MayLeave b c flow → Leaves b c (go_on flow n st)
      by Next st h = g st
      by Broke st h = h
      by Continued st h = h
      by (Returned v) st h = h

  turned_leaves : (m : Run Flow) (flow : Flow) (st : State) → Leaves b c (m st) → Leaves b c (turned flow m st)
  unfolding turned give
  turned_leaves m Next st f = f
  turned_leaves m Continued st f = f
  turned_leaves m Broke st f = tt
  turned_leaves m (Returned v) st f = tt

  -- ---- loops

  loop_leaves : (inner : Bool) (deep : ℕ) (test : Run Bool) (step : Run (Unit {0})) (body : Run Flow) (st : State) → ((st : State) → Leaves true true (body st)) → Leaves b c (loop inner deep test step body st)
  unfolding loop stop
  loop_leaves inner zero test step body st f = tt
  loop_leaves inner (suc n) test step body st f =
      run_leaves test (λ t. choose t (paid inner (body >>= λ flow. turned flow (step >>= λ _. loop inner n test step body))) (give Next)) st
      (λ t st1. chosen_leaves t (paid inner (body >>= λ flow. turned flow (step >>= λ _. loop inner n test step body))) (give Next) st1
      (paid_leaves inner (body >>= λ flow. turned flow (step >>= λ _. loop inner n test step body)) st1 (λ st2. flow_leaves true true body (λ flow. turned flow (step >>= λ _. loop inner n test step body)) st2 (f st2)
      (λ flow st3 h. turned_leaves (step >>= λ _. loop inner n test step body) flow st3 (run_leaves step (λ _. loop inner n test step body) st3 (λ v st4. loop_leaves inner n test step body st4 f)))))
      (next_leaves st1))

  do_leaves : (inner : Bool) (deep : ℕ) (test : Run Bool) (body : Run Flow) (st : State) → ((st : State) → Leaves true true (body st)) → Leaves b c (do_loop inner deep test body st)
  unfolding do_loop stop
  do_leaves inner zero test body st f = tt
  do_leaves inner (suc n) test body st f =
      paid_leaves inner (body >>= λ flow. turned flow (test >>= λ t. choose t (do_loop inner n test body) (give Next))) st
      (λ st1. flow_leaves true true body (λ flow. turned flow (test >>= λ t. choose t (do_loop inner n test body) (give Next))) st1 (f st1)
      (λ flow st2 h. turned_leaves (test >>= λ t. choose t (do_loop inner n test body) (give Next)) flow st2 (run_leaves test (λ t. choose t (do_loop inner n test body) (give Next)) st2 (λ t st3. chosen_leaves t (do_loop inner n test body) (give Next) st3 (do_leaves inner n test body st3 f) (next_leaves st3)))))

  returned_leaves : (e : Option CExpr) (w : World) (here : Environment) (st : State) → Leaves b c (returned e w here st)
  unfolding returned give
  returned_leaves None w here st = tt
  returned_leaves (Some e) w here st = run_leaves _ (λ v. give (Returned v)) st (λ v st1. tt)

  word_leaves : (v : Value) (f : ℕ → Run Flow) (st : State) → ((x : ℕ) → Leaves b c (f x st)) → Leaves b c (of_word v f st)
  unfolding of_word undefined
  word_leaves (Word n) f st h = h n
  word_leaves Null f st h = tt
  word_leaves (Point o k) f st h = tt
  word_leaves (Letter g i text k) f st h = tt
  word_leaves (Function name) f st h = tt
  word_leaves Missing f st h = tt

either : (b c t : Bool) (m n : Run Flow) (st : State) → Leaves b c (m st) → Leaves b c (n st) → Leaves b c ((if t then m else n) st)
either b c true m n st f g = f
either b c false m n st f g = g

-- a `break` ends a `switch`
switched : (b c : Bool) (flow : Flow) → MayLeave true c flow → MayLeave b c (behind_switch flow)
switched b c Next h = tt
switched b c Broke h = tt
switched b c Continued h = h
switched b c (Returned v) h = tt

mutual
  unfolding give

  pub stays : (b c : Bool) (t : CStmt) → BreaksAreIn b c t → (deep : ℕ) (w : World) (here : Environment) (st : State) → Leaves b c (does t deep w here st)
  stays b c (Block ss) h deep w here st = within_leaves b c _ (λ n. all_do ss deep w (in_block n here)) st (λ n st1. all_stay b c ss h deep w _ st1)
  stays b c (Local d) h deep w here st = run_leaves b c _ (λ _. give Next) st (λ v st1. tt)
  stays b c (Do_expr e) h deep w here st = run_leaves b c _ (λ _. give Next) st (λ v st1. tt)
  stays b c Empty h deep w here st = tt
  stays b c (If e t) h deep w here st = run_leaves b c _ (λ x. choose x (does t deep w (past e here)) (give Next)) st (λ x st1. chosen_leaves b c x _ (give Next) st1 (stays b c t h deep w _ st1) (next_leaves b c st1))
  stays b c (IfElse e t u) h deep w here st =
      run_leaves b c _ (λ x. choose x (does t deep w (past e here)) (does u deep w (past_stmt t (past e here)))) st (λ x st1. chosen_leaves b c x _ _ st1 (stays b c t h.0 deep w _ st1) (stays b c u h.1 deep w _ st1))
  stays b c (While e t) h deep w here st = loop_leaves b c w.inner deep _ _ _ st (λ st1. stays true true t h deep w _ st1)
  stays b c (Do t e) h deep w here st = do_leaves b c w.inner deep _ _ st (λ st1. stays true true t h deep w _ st1)
  stays b c (For (Block ss) test step t) h deep w here st =
      within_leaves b c _ (λ n. all_do ss deep w (in_block n here) >>= λ flow. go_on flow (loop w.inner deep (maybe_condition test w (behind_all ss (in_block n here))) (maybe_effect step w (past_maybe test (behind_all ss (in_block n here)))) (does t deep w (past_maybe step (past_maybe test (behind_all ss (in_block n here))))))) st
      (λ n st1. go_on_leaves b c (all_do ss deep w (in_block n here)) _ st1 (all_stay b c ss h.0 deep w _ st1) (λ st2. loop_leaves b c w.inner deep _ _ _ st2 (λ st3. stays true true t h.1 deep w _ st3)))
  stays b c (Return at e) h deep w here st = returned_leaves b c e w here st
  stays b c (Break at) h deep w here st = h
  stays b c (Continue at) h deep w here st = h
  stays b c (Switch e ps) h deep w here st =
      run_leaves b c _ _ st (λ v st1. word_leaves b c v _ st1 (λ x. flow_leaves b c true c _ (λ flow. give (behind_switch flow)) st1 (within_leaves true c _ _ st1 (λ n st2. from_stays true c _ ps h deep w _ st2)) (λ flow st3 k. switched b c flow k)))
  stays b c (For (Local d) test step t) h deep w here st = go_on_leaves b c (does (Local d) deep w here) _ st (stays b c (Local d) h.0 deep w here st) (λ st1. loop_leaves b c w.inner deep _ _ _ st1 (λ st2. stays true true t h.1 deep w _ st2))
  stays b c (For (Do_expr e) test step t) h deep w here st = go_on_leaves b c (does (Do_expr e) deep w here) _ st (stays b c (Do_expr e) h.0 deep w here st) (λ st1. loop_leaves b c w.inner deep _ _ _ st1 (λ st2. stays true true t h.1 deep w _ st2))
  stays b c (For Empty test step t) h deep w here st = go_on_leaves b c (does Empty deep w here) _ st (stays b c Empty h.0 deep w here st) (λ st1. loop_leaves b c w.inner deep _ _ _ st1 (λ st2. stays true true t h.1 deep w _ st2))
  stays b c (For (If e a) test step t) h deep w here st = go_on_leaves b c (does (If e a) deep w here) _ st (stays b c (If e a) h.0 deep w here st) (λ st1. loop_leaves b c w.inner deep _ _ _ st1 (λ st2. stays true true t h.1 deep w _ st2))
  stays b c (For (IfElse e a x) test step t) h deep w here st = go_on_leaves b c (does (IfElse e a x) deep w here) _ st (stays b c (IfElse e a x) h.0 deep w here st) (λ st1. loop_leaves b c w.inner deep _ _ _ st1 (λ st2. stays true true t h.1 deep w _ st2))
  stays b c (For (While e a) test step t) h deep w here st = go_on_leaves b c (does (While e a) deep w here) _ st (stays b c (While e a) h.0 deep w here st) (λ st1. loop_leaves b c w.inner deep _ _ _ st1 (λ st2. stays true true t h.1 deep w _ st2))
  stays b c (For (Do a e) test step t) h deep w here st = go_on_leaves b c (does (Do a e) deep w here) _ st (stays b c (Do a e) h.0 deep w here st) (λ st1. loop_leaves b c w.inner deep _ _ _ st1 (λ st2. stays true true t h.1 deep w _ st2))
  stays b c (For (For a x y z) test step t) h deep w here st = go_on_leaves b c (does (For a x y z) deep w here) _ st (stays b c (For a x y z) h.0 deep w here st) (λ st1. loop_leaves b c w.inner deep _ _ _ st1 (λ st2. stays true true t h.1 deep w _ st2))
  stays b c (For (Return at e) test step t) h deep w here st = go_on_leaves b c (does (Return at e) deep w here) _ st (stays b c (Return at e) h.0 deep w here st) (λ st1. loop_leaves b c w.inner deep _ _ _ st1 (λ st2. stays true true t h.1 deep w _ st2))
  stays b c (For (Break at) test step t) h deep w here st = go_on_leaves b c (does (Break at) deep w here) _ st (stays b c (Break at) h.0 deep w here st) (λ st1. loop_leaves b c w.inner deep _ _ _ st1 (λ st2. stays true true t h.1 deep w _ st2))
  stays b c (For (Continue at) test step t) h deep w here st = go_on_leaves b c (does (Continue at) deep w here) _ st (stays b c (Continue at) h.0 deep w here st) (λ st1. loop_leaves b c w.inner deep _ _ _ st1 (λ st2. stays true true t h.1 deep w _ st2))
  stays b c (For (Switch e ps) test step t) h deep w here st = go_on_leaves b c (does (Switch e ps) deep w here) _ st (stays b c (Switch e ps) h.0 deep w here st) (λ st1. loop_leaves b c w.inner deep _ _ _ st1 (λ st2. stays true true t h.1 deep w _ st2))

  all_stay : (b c : Bool) (ts : CStmts) → AllBreaksAreIn b c ts → (deep : ℕ) (w : World) (here : Environment) (st : State) → Leaves b c (all_do ts deep w here st)
  all_stay b c NoStmt h deep w here st = tt
  all_stay b c (MoreStmt t ts) h deep w here st = go_on_leaves b c (does t deep w here) _ st (stays b c t h.0 deep w here st) (λ st1. all_stay b c ts h.1 deep w _ st1)

  part_stays : (b c : Bool) (p : CPart) → PartBreaksIn b c p → (deep : ℕ) (w : World) (here : Environment) (st : State) → Leaves b c (part_does p deep w here st)
  part_stays b c (Label at e) h deep w here st = tt
  part_stays b c (Item t) h deep w here st = stays b c t h deep w here st

  parts_stay : (b c : Bool) (ps : CParts) → PartsBreakIn b c ps → (deep : ℕ) (w : World) (here : Environment) (st : State) → Leaves b c (parts_do ps deep w here st)
  parts_stay b c NoPart h deep w here st = tt
  parts_stay b c (MorePart p ps) h deep w here st = go_on_leaves b c (part_does p deep w here) _ st (part_stays b c p h.0 deep w here st) (λ st1. parts_stay b c ps h.1 deep w _ st1)

  from_stays : (b c : Bool) (target : Target) (ps : CParts) → PartsBreakIn b c ps → (deep : ℕ) (w : World) (here : Environment) (st : State) → Leaves b c (parts_from target ps deep w here st)
  from_stays b c target NoPart h deep w here st = tt
  from_stays b c target (MorePart p ps) h deep w here st = either b c (is_target target here.scope p) _ _ st (parts_stay b c ps h.1 deep w _ st) (from_stays b c target ps h.1 deep w _ st)
