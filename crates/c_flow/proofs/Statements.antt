-- The code of a statement does what the statement does.
use Rattle.std.proofs.Common.{◌≡◌, ℕ, suc, ◌+◌, ◌≤◌, List, [], ◌∷◌, ◌++◌, length, Option, Some, None, Bool, true, false, refl, sym, ap, ◌∙◌, arith, length-append}
use Rattle.std.specs.Prelude.{◌==◌, if◌then◌else◌}
use Rattle.c_syntax.specs.Plain as plain
use Rattle.c_syntax.specs.Plain.{CExpr, CStmt, CStmts, CParts}
use Rattle.c_types.specs.Scope.{entered}
use Rattle.c_eval.specs.State.{Value, Cell, Missing, State, Run}
use Rattle.c_eval.specs.Run.{after, ◌>>=◌, give}
use Rattle.c_eval.specs.Memory.{within}
use Rattle.c_eval.specs.Operators.{used}
use Rattle.c_eval.specs.Environment.{Environment, constant_in, block_objects, parts_objects, past, past_maybe, past_stmt, behind, behind_all, in_block, Target, Case, Default, target_of}
use Rattle.c_eval.specs.Eval.{Flow, Next, Broke, Continued, Returned, used_value, returned, loop, maybe_condition, maybe_effect, does, all_do, parts_do, parts_from}
use Rattle.c_code.specs.Code as code
use Rattle.c_code.specs.Code.{Instruction, Site, value_code, loop_code, maybe_test_code, maybe_effect_code, return_code, label_place, slots_for, slots_for_all, slots_for_parts, stmt_code, stmts_code, parts_code, labels_in, local_code}
use Rattle.c_code.specs.Machine.{Control, numbered, in_new_block, with_top, step_of}
use Rattle.c_flow.proofs.Leading.{Bounded, Leads, moved, leads_then, leads_give, leads_as, leads_first}
use Rattle.c_flow.proofs.Standing.{Stands, stands_first, stands_rest, stands_at, none_on}
use Rattle.c_flow.proofs.Landing.{Lands, push_lands, then_top, use_does}
use Rattle.c_flow.proofs.Forms.{Calls, outer, seen, CallsLead}
use Rattle.c_flow.proofs.Values.{value_lands}
use Rattle.c_flow.proofs.Flowing.{goes, Goes, goes_at, next_given, then_goes, drop_goes, effect_goes, if_goes, choice_goes, block_goes}
use Rattle.c_flow.proofs.Looping.{loop_goes, do_goes}
use Rattle.c_flow.proofs.Switching.{target_place, switch_goes}
use Rattle.c_flow.proofs.Names.{Ready, Sees, at_seen, behind_sees, behind_all_sees, past_ready, maybe_sees, block_ready}
use Rattle.c_flow.proofs.Firsts.{none_effects, local_effects, used_tests, maybe_tests, maybe_effects}

-- ---- single statements

nothing_goes : (p : Bounded) (slots : List (Option ℕ)) → Goes p slots [] (give Next)
nothing_goes p slots c to e sl s = next_given p c c.at to (none_on c.at to e)

-- an instruction that does what a flow does
flow_goes : (p : Bounded) (slots : List (Option ℕ)) (i : Instruction) (flow : Flow) → ((c : Control) (to : ℕ) (st : State) → step_of p.program i c st ≡ goes c to flow st) → Goes p slots (i ∷ []) (give flow)
flow_goes p slots i flow f c to e sl s = leads_first p c (goes c to flow) i s.0 (λ st. f c to st) (leads_give p (goes c to flow) (goes c to) flow (λ st. refl))

break_goes : (p : Bounded) (slots : List (Option ℕ)) → Goes p slots (code.Break ∷ []) (give Broke)
unfolding step_of goes
break_goes p slots = flow_goes p slots code.Break Broke (λ c to st. refl)

continue_goes : (p : Bounded) (slots : List (Option ℕ)) → Goes p slots (code.Continue ∷ []) (give Continued)
unfolding step_of goes
continue_goes p slots = flow_goes p slots code.Continue Continued (λ c to st. refl)

value_returns : (p : Bounded) (slots : List (Option ℕ)) (is : List Instruction) (m : Run Value) → Lands p slots is m → Goes p slots (is ++ code.Return ∷ []) (m >>= λ v. give (Returned v))
unfolding step_of with_top goes
value_returns p slots is m t c to e sl s =
    let mid : ℕ = c.at + length is in
    leads_then p (λ v. give (moved c mid (v ∷ c.stack))) (t c mid refl sl (stands_first p.program c.at is (code.Return ∷ []) s))
    (λ v. leads_first p (moved c mid (v ∷ c.stack)) (goes c to (Returned v)) code.Return (stands_rest p.program c.at mid is (code.Return ∷ []) refl s).0 (λ st. refl) (leads_give p (goes c to (Returned v)) (goes c to) (Returned v) (λ st. refl)))

none_returned : (st : State) → (give Missing >>= λ v. give (Returned v)) st ≡ give (Returned Missing) st
unfolding ◌>>=◌ give after
none_returned st = refl

return_goes : (e : Option CExpr) (p : Bounded) (slots : List (Option ℕ)) (site : Site) (calls : Calls) (free count : ℕ) (there : Environment) (os : List (List ℕ × Option ℕ)) (n : ℕ) → CallsLead p calls → Ready slots site free count there os n →
    Goes p slots (return_code e site there) (returned e (outer p site calls) (seen there os n))
unfolding returned used_value
return_goes None p slots site calls free count there os n k r = λ c to e sl s. leads_as p _ _ none_returned (value_returns p slots (code.Push Missing ∷ []) (give Missing) (push_lands p slots Missing) c to e sl s)
return_goes (Some a) p slots site calls free count there os n k r =
    value_returns p slots (value_code a site there ++ code.Use ∷ []) _ (then_top p slots (value_code a site there) code.Use _ used (use_does p) (value_lands a p slots site calls there os n k r.alike))

-- ---- blocks

leave_place : (at to b : ℕ) → to ≡ at + suc (b + 1) → suc (suc at + b) ≡ to
leave_place at to b e = omega (arith, e)

within_goes : (p : Bounded) (slots : List (Option ℕ)) (is : List Instruction) (new : List (List Cell)) (count : ℕ) (body : ℕ → Run Flow) → ((o : ℕ) → Goes p (slots ++ numbered o count) is (body o)) →
    Goes p slots (code.Enter new count ∷ (is ++ code.Leave ∷ [])) (within new body)
within_goes p slots is new count body t c to e sl s =
    let mid : ℕ = suc c.at + length is in
    let l : length (is ++ code.Leave ∷ []) ≡ length is + 1 = length-append is (code.Leave ∷ []) in
    block_goes p c c.stack mid to count new body s.0 (leave_place c.at to (length is) (e ∙ ap (λ k. c.at + suc k) l)) (stands_rest p.program (suc c.at) mid is (code.Leave ∷ []) refl s.1).0
    (λ o. t o (in_new_block c o count) mid refl (ap (λ xs. xs ++ numbered o count) sl) (stands_first p.program (suc c.at) is (code.Leave ∷ []) s.1))

-- ---- `for`

abbrev BodyGoes : (p : Bounded) → List (Option ℕ) → Site → (free count : ℕ) → (Environment → List Instruction) → (Environment → Run Flow) → Type 0
BodyGoes p slots site free count is m = (there : Environment) (os : List (List ℕ × Option ℕ)) (n : ℕ) → Ready slots site free count there os n → Goes p slots (is there) (m (seen there os n))

for_ready : (test step : Option CExpr) (is : Environment → List Instruction) (m : Environment → Run Flow) (p : Bounded) (slots : List (Option ℕ)) (site : Site) (calls : Calls) (free count : ℕ) (there : Environment) (os : List (List ℕ × Option ℕ)) (n : ℕ) →
    CallsLead p calls → BodyGoes p slots site free count is m → Ready slots site free count there os n →
    Goes p slots (loop_code (maybe_test_code test site there) (maybe_effect_code step site (past_maybe test there)) (is (past_maybe step (past_maybe test there))))
    (loop false p.depth (maybe_condition test (outer p site calls) (seen there os n)) (maybe_effect step (outer p site calls) (past_maybe test (seen there os n))) (m (past_maybe step (past_maybe test (seen there os n)))))
for_ready test step is m p slots site calls free count there os n k b r =
    at_seen (λ here. Goes p slots (loop_code (maybe_test_code test site there) (maybe_effect_code step site (past_maybe test there)) (is (past_maybe step (past_maybe test there))))
    (loop false p.depth (maybe_condition test (outer p site calls) (seen there os n)) (maybe_effect step (outer p site calls) here) (m (past_maybe step here)))) (maybe_sees test slots site free count there os n r)
    (λ os1 n1 r1. loop_goes p slots (maybe_test_code test site there) (maybe_effect_code step site (past_maybe test there)) (is (past_maybe step (past_maybe test there))) _ _ _ (maybe_tests test p slots site calls free count there os n k r)
    (maybe_effects step p slots site calls free count (past_maybe test there) os1 n1 k r1)
    (at_seen (λ here. Goes p slots (is (past_maybe step (past_maybe test there))) (m here)) (maybe_sees step slots site free count (past_maybe test there) os1 n1 r1) (λ os2 n2 r2. b (past_maybe step (past_maybe test there)) os2 n2 r2)))

for_goes : (test step : Option CExpr) (is : Environment → List Instruction) (m : Environment → Run Flow) (p : Bounded) (slots : List (Option ℕ)) (site : Site) (calls : Calls) (free count : ℕ) (there here : Environment) →
    CallsLead p calls → BodyGoes p slots site free count is m → Sees slots site free count there here →
    Goes p slots (loop_code (maybe_test_code test site there) (maybe_effect_code step site (past_maybe test there)) (is (past_maybe step (past_maybe test there))))
    (loop false p.depth (maybe_condition test (outer p site calls) here) (maybe_effect step (outer p site calls) (past_maybe test here)) (m (past_maybe step (past_maybe test here))))
for_goes test step is m p slots site calls free count there here k b s =
    at_seen (λ here. Goes p slots (loop_code (maybe_test_code test site there) (maybe_effect_code step site (past_maybe test there)) (is (past_maybe step (past_maybe test there))))
    (loop false p.depth (maybe_condition test (outer p site calls) here) (maybe_effect step (outer p site calls) (past_maybe test here)) (m (past_maybe step (past_maybe test here))))) s
    (λ os n r. for_ready test step is m p slots site calls free count there os n k b r)

-- ---- `switch`

-- what parts do from a label on
abbrev FromLabel : (p : Bounded) → List (Option ℕ) → (past : ℕ) → (start_at : ℕ) → List Instruction → (place : ℕ) → Run Flow → Type 0
FromLabel p slots past at is place m =
    (c : Control) (start to : ℕ) → past ≡ at + length is → to ≡ start + past → c.slots ≡ slots → Stands p.program (start + at) is → Leads p (give (moved c (start + place) c.stack)) m (goes c to)

label_here : (p : Bounded) (slots : List (Option ℕ)) (past at : ℕ) (is : List Instruction) (m : Run Flow) → Goes p slots is m → FromLabel p slots past at is at m
label_here p slots past at is m t c start to e f sl s = goes_at p c (start + at) to (t (moved c (start + at) c.stack) to (place e f) sl s)
  where
    place : past ≡ at + length is → to ≡ start + past → to ≡ (start + at) + length is
    place e f = omega (arith, e, f)

later_label : (p : Bounded) (slots : List (Option ℕ)) (past at : ℕ) (is js : List Instruction) (place : ℕ) (m : Run Flow) → FromLabel p slots past (at + length is) js place m → FromLabel p slots past at (is ++ js) place m
later_label p slots past at is js place m t c start to e f sl s =
    t c start to (further e) f sl (stands_at p.program ((start + at) + length is) (start + (at + length is)) js there (stands_rest p.program (start + at) ((start + at) + length is) is js refl s))
  where
    further : past ≡ at + length (is ++ js) → past ≡ (at + length is) + length js
    further e = let l : length (is ++ js) ≡ length is + length js = length-append is js in omega (arith, e, l)

    there : (start + at) + length is ≡ start + (at + length is)
    there = omega arith

label_or_later : (p : Bounded) (slots : List (Option ℕ)) (past at : ℕ) (is : List Instruction) (b : Bool) (place : ℕ) (m m' : Run Flow) → FromLabel p slots past at is at m → FromLabel p slots past at is place m' → FromLabel p slots past at is (if b then at else place) (if b then m else m')
label_or_later p slots past at is true place m m' t u = t
label_or_later p slots past at is false place m m' t u = u

-- ---- all

first_part : (a b count : ℕ) → a + b ≤ count → a ≤ count
first_part a b count le = omega (arith, le)

second_part : (a b count : ℕ) → a + b ≤ count → b ≤ count
second_part a b count le = omega (arith, le)

enough : (a : ℕ) → a ≤ a
enough a = omega arith

one_of : (count : ℕ) → 1 ≤ count → suc 0 ≤ count
one_of count le = omega (arith, le)

stmt_ready : (t : CStmt) (slots : List (Option ℕ)) (site : Site) (free count : ℕ) (there : Environment) (os : List (List ℕ × Option ℕ)) (n : ℕ) → Ready slots site free count there os n → Ready slots site free count (past_stmt t there) os n
stmt_ready t slots site free count there os n r = record { alike = record { finds = r.alike.finds }; pending = r.pending; size = r.size }

less : (slots : List (Option ℕ)) (site : Site) (free count k : ℕ) (there : Environment) (os : List (List ℕ × Option ℕ)) (n : ℕ) → k ≤ count → Ready slots site free count there os n → Ready slots site free k there os n
less slots site free count k there os n le r = record { alike = r.alike; pending = λ i lt. r.pending i (omega (arith, lt, le)); size = r.size }

all_of_them : (past b : ℕ) → past ≡ b → past ≡ 0 + b
all_of_them past b e = omega (arith, e)

from_start : (start : ℕ) → start ≡ start + 0
from_start start = omega arith

mutual
  unfolding used_value

  pub does_goes : (t : CStmt) (p : Bounded) (slots : List (Option ℕ)) (site : Site) (calls : Calls) (free count : ℕ) (there : Environment) (os : List (List ℕ × Option ℕ)) (n : ℕ) → CallsLead p calls → slots_for t ≤ count → Ready slots site free count there os n →
      Goes p slots (stmt_code t free site there) (does t p.depth (outer p site calls) (seen there os n))
  does_goes (plain.Block ss) p slots site calls free count there os n k le r =
      within_goes p slots _ (block_objects (entered there.scope) ss) (slots_for_all ss) _
      (λ o. all_goes ss p (slots ++ numbered o (slots_for_all ss)) site calls (free + slots_for_all ss) (slots_for_all ss) (in_block free there) os o k (enough (slots_for_all ss)) (block_ready slots site free count there os n o (slots_for_all ss) r))
  does_goes (plain.Local d) p slots site calls free count there os n k le r =
      effect_goes p slots (local_code d site there d.first) _ (local_effects d d.first p slots site calls free 0 there os n k (less slots site free count (suc 0) there os n (one_of count le) r))
  does_goes (plain.Do_expr e) p slots site calls free count there os n k le r = drop_goes p slots (value_code e site there) _ (value_lands e p slots site calls there os n k r.alike)
  does_goes plain.Empty p slots site calls free count there os n k le r = nothing_goes p slots
  does_goes (plain.If e t) p slots site calls free count there os n k le r =
      if_goes p slots (value_code e site there ++ code.Use ∷ []) (stmt_code t free site (past e there)) _ _ (used_tests e p slots site calls free count there os n k r)
      (does_goes t p slots site calls free count (past e there) os n k le (past_ready e slots site free count there os n r))
  does_goes (plain.IfElse e t u) p slots site calls free count there os n k le r =
      choice_goes p slots (value_code e site there ++ code.Use ∷ []) (stmt_code t free site (past e there)) (stmt_code u free site (past_stmt t (past e there))) _ _ _ (used_tests e p slots site calls free count there os n k r)
      (does_goes t p slots site calls free count (past e there) os n k (first_part (slots_for t) (slots_for u) count le) (past_ready e slots site free count there os n r))
      (does_goes u p slots site calls free count (past_stmt t (past e there)) os n k (second_part (slots_for t) (slots_for u) count le) (stmt_ready t slots site free count (past e there) os n (past_ready e slots site free count there os n r)))
  does_goes (plain.While e t) p slots site calls free count there os n k le r =
      loop_goes p slots (value_code e site there ++ code.Use ∷ []) [] (stmt_code t free site (past e there)) _ _ _ (used_tests e p slots site calls free count there os n k r) (none_effects p slots)
      (does_goes t p slots site calls free count (past e there) os n k le (past_ready e slots site free count there os n r))
  does_goes (plain.Do t e) p slots site calls free count there os n k le r =
      do_goes p slots (stmt_code t free site there) (value_code e site (past_stmt t there) ++ code.Use ∷ []) _ _ (does_goes t p slots site calls free count there os n k le r)
      (used_tests e p slots site calls free count (past_stmt t there) os n k (stmt_ready t slots site free count there os n r))
  does_goes (plain.For (plain.Block ss) test step t) p slots site calls free count there os n k le r =
      let more : ℕ = slots_for_all ss + slots_for t in
      within_goes p slots _ (block_objects (entered there.scope) ss) more _
      (λ o.
      let inside = block_ready slots site free count there os n o more r in
      then_goes p (slots ++ numbered o more) (stmts_code ss (free + more) site (in_block free there)) _ _ _
      (all_goes ss p (slots ++ numbered o more) site calls (free + more) more (in_block free there) os o k (first_part (slots_for_all ss) (slots_for t) more (enough more)) inside)
      (for_goes test step (λ x. stmt_code t (free + more) site x) (λ x. does t p.depth (outer p site calls) x) p (slots ++ numbered o more) site calls (free + more) (slots_for t) (behind_all ss (in_block free there)) _ k
      (λ there1 os1 n1 r1. does_goes t p (slots ++ numbered o more) site calls (free + more) (slots_for t) there1 os1 n1 k (enough (slots_for t)) r1)
      (behind_all_sees ss (slots ++ numbered o more) site (free + more) more (slots_for t) (in_block free there) os o (enough more) inside)))
  does_goes (plain.For first test step t) p slots site calls free count there os n k le r =
      then_goes p slots (stmt_code first free site there)
      (loop_code (maybe_test_code test site (behind first there)) (maybe_effect_code step site (past_maybe test (behind first there))) (stmt_code t free site (past_maybe step (past_maybe test (behind first there))))) _ _
      (does_goes first p slots site calls free count there os n k (first_part (slots_for first) (slots_for t) count le) r)
      (for_goes test step (λ x. stmt_code t free site x) (λ x. does t p.depth (outer p site calls) x) p slots site calls free (slots_for t) (behind first there) _ k
      (λ there1 os1 n1 r1. does_goes t p slots site calls free (slots_for t) there1 os1 n1 k (enough (slots_for t)) r1) (behind_sees first slots site free count (slots_for t) there os n le r))
  does_goes (plain.Return at e) p slots site calls free count there os n k le r = return_goes e p slots site calls free count there os n k r
  does_goes (plain.Break at) p slots site calls free count there os n k le r = break_goes p slots
  does_goes (plain.Continue at) p slots site calls free count there os n k le r = continue_goes p slots
  does_goes (plain.Switch e ps) p slots site calls free count there os n k le r =
      let more : ℕ = slots_for_parts ps in
      let inner : Environment = in_block free (past e there) in
      let is : List Instruction = parts_code ps (free + more) site inner in
      switch_goes p slots (value_code e site there ++ code.Use ∷ []) _ (parts_objects (entered there.scope) ps) more (labels_in ps (free + more) site inner 0) is _
      (then_top p slots (value_code e site there) code.Use _ used (use_does p) (value_lands e p slots site calls there os n k r.alike))
      (λ word o c start to f sl s.
      let inside = block_ready slots site free count (past e there) os n o more (past_ready e slots site free count there os n r) in
      rw (target_place word ps (free + more) site inner 0 (length is))
      (from_goes ps (target_of word (entered there.scope) ps) p (slots ++ numbered o more) site calls (free + more) more inner os o k (enough more) inside 0 (length is) c start to (all_of_them (length is) (length is) refl) f sl (stands_at p.program start (start + 0) is (from_start start) s)))

  all_goes : (ts : CStmts) (p : Bounded) (slots : List (Option ℕ)) (site : Site) (calls : Calls) (free count : ℕ) (there : Environment) (os : List (List ℕ × Option ℕ)) (n : ℕ) → CallsLead p calls → slots_for_all ts ≤ count → Ready slots site free count there os n →
      Goes p slots (stmts_code ts free site there) (all_do ts p.depth (outer p site calls) (seen there os n))
  all_goes plain.NoStmt p slots site calls free count there os n k le r = nothing_goes p slots
  all_goes (plain.MoreStmt t ts) p slots site calls free count there os n k le r =
      then_goes p slots (stmt_code t free site there) (stmts_code ts free site (behind t there)) _ _ (does_goes t p slots site calls free count there os n k (first_part (slots_for t) (slots_for_all ts) count le) r)
      (at_seen (λ here. Goes p slots (stmts_code ts free site (behind t there)) (all_do ts p.depth (outer p site calls) here)) (behind_sees t slots site free count (slots_for_all ts) there os n le r)
      (λ os1 n1 r1. all_goes ts p slots site calls free (slots_for_all ts) (behind t there) os1 n1 k (enough (slots_for_all ts)) r1))

  parts_goes : (ps : CParts) (p : Bounded) (slots : List (Option ℕ)) (site : Site) (calls : Calls) (free count : ℕ) (there : Environment) (os : List (List ℕ × Option ℕ)) (n : ℕ) → CallsLead p calls → slots_for_parts ps ≤ count → Ready slots site free count there os n →
      Goes p slots (parts_code ps free site there) (parts_do ps p.depth (outer p site calls) (seen there os n))
  parts_goes plain.NoPart p slots site calls free count there os n k le r = nothing_goes p slots
  parts_goes (plain.MorePart (plain.Label at e) ps) p slots site calls free count there os n k le r =
      then_goes p slots [] (parts_code ps free site there) _ _ (nothing_goes p slots) (parts_goes ps p slots site calls free count there os n k (second_part 0 (slots_for_parts ps) count le) r)
  parts_goes (plain.MorePart (plain.Item t) ps) p slots site calls free count there os n k le r =
      then_goes p slots (stmt_code t free site there) (parts_code ps free site (behind t there)) _ _ (does_goes t p slots site calls free count there os n k (first_part (slots_for t) (slots_for_parts ps) count le) r)
      (at_seen (λ here. Goes p slots (parts_code ps free site (behind t there)) (parts_do ps p.depth (outer p site calls) here)) (behind_sees t slots site free count (slots_for_parts ps) there os n le r)
      (λ os1 n1 r1. parts_goes ps p slots site calls free (slots_for_parts ps) (behind t there) os1 n1 k (enough (slots_for_parts ps)) r1))

  from_goes : (ps : CParts) (target : Target) (p : Bounded) (slots : List (Option ℕ)) (site : Site) (calls : Calls) (free count : ℕ) (there : Environment) (os : List (List ℕ × Option ℕ)) (n : ℕ) → CallsLead p calls → slots_for_parts ps ≤ count → Ready slots site free count there os n →
      (at past : ℕ) → FromLabel p slots past at (parts_code ps free site there) (label_place target (labels_in ps free site there at) past) (parts_from target ps p.depth (outer p site calls) (seen there os n))
  from_goes plain.NoPart target p slots site calls free count there os n k le r at past = λ c start to e f sl s. next_given p c (start + past) to (sym f)
  from_goes (plain.MorePart (plain.Label pos (Some a)) ps) (Case word) p slots site calls free count there os n k le r at past =
      label_or_later p slots past at (parts_code ps free site there) (constant_in there.scope a == word) _ _ _
      (label_here p slots past at (parts_code ps free site there) _ (parts_goes ps p slots site calls free count there os n k (second_part 0 (slots_for_parts ps) count le) r))
      (later_label p slots past at [] (parts_code ps free site there) _ _ (from_goes ps (Case word) p slots site calls free count there os n k (second_part 0 (slots_for_parts ps) count le) r (at + 0) past))
  from_goes (plain.MorePart (plain.Label pos None) ps) (Case word) p slots site calls free count there os n k le r at past =
      later_label p slots past at [] (parts_code ps free site there) _ _ (from_goes ps (Case word) p slots site calls free count there os n k (second_part 0 (slots_for_parts ps) count le) r (at + 0) past)
  from_goes (plain.MorePart (plain.Label pos (Some a)) ps) Default p slots site calls free count there os n k le r at past =
      later_label p slots past at [] (parts_code ps free site there) _ _ (from_goes ps Default p slots site calls free count there os n k (second_part 0 (slots_for_parts ps) count le) r (at + 0) past)
  from_goes (plain.MorePart (plain.Label pos None) ps) Default p slots site calls free count there os n k le r at past =
      label_here p slots past at (parts_code ps free site there) _ (parts_goes ps p slots site calls free count there os n k (second_part 0 (slots_for_parts ps) count le) r)
  from_goes (plain.MorePart (plain.Item t) ps) (Case word) p slots site calls free count there os n k le r at past =
      later_label p slots past at (stmt_code t free site there) (parts_code ps free site (behind t there)) _ _
      (at_seen (λ here. FromLabel p slots past (at + length (stmt_code t free site there)) (parts_code ps free site (behind t there)) (label_place (Case word) (labels_in ps free site (behind t there) (at + length (stmt_code t free site there))) past) (parts_from (Case word) ps p.depth (outer p site calls) here)) (behind_sees t slots site free count (slots_for_parts ps) there os n le r)
      (λ os1 n1 r1. from_goes ps (Case word) p slots site calls free (slots_for_parts ps) (behind t there) os1 n1 k (enough (slots_for_parts ps)) r1 (at + length (stmt_code t free site there)) past))
  from_goes (plain.MorePart (plain.Item t) ps) Default p slots site calls free count there os n k le r at past =
      later_label p slots past at (stmt_code t free site there) (parts_code ps free site (behind t there)) _ _
      (at_seen (λ here. FromLabel p slots past (at + length (stmt_code t free site there)) (parts_code ps free site (behind t there)) (label_place Default (labels_in ps free site (behind t there) (at + length (stmt_code t free site there))) past) (parts_from Default ps p.depth (outer p site calls) here)) (behind_sees t slots site free count (slots_for_parts ps) there os n le r)
      (λ os1 n1 r1. from_goes ps Default p slots site calls free (slots_for_parts ps) (behind t there) os1 n1 k (enough (slots_for_parts ps)) r1 (at + length (stmt_code t free site there)) past))
