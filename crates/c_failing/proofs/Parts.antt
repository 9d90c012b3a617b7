-- What is undefined stays so, and shows what it has shown.
use Rattle.std.proofs.Common.{◌≡◌, ℕ, ◌+◌, ◌++◌, ◌≤◌, List, [], ◌∷◌, length, map, take, drop, Bool, true, refl, sym, ap, ◌∙◌, subst, arith, append-nil}
use Rattle.std.proofs.lemmas.Bool.{le-leb}
use Rattle.c_syntax.specs.Plain.{CStmt, CStmts, MoreStmt}
use Rattle.c_eval.specs.State.{Cell, Object, State, Outcome, Gives, Ended, Going, Undefined, Run}
use Rattle.c_eval.specs.Run.{◌>>=◌, after, give, objects_now, with_objects}
use Rattle.c_eval.specs.Memory.{live_object, dead, enter, leave, within}
use Rattle.c_eval.specs.Helpers.{leaving, behind_helper, own_charged_by, own_charged}
use Rattle.c_eval.specs.Environment.{Environment, behind}
use Rattle.c_eval.specs.Eval.{World, Flow, Next, go_on, does, all_do}
use Rattle.c_failing.specs.Failing.{Fails, FailsAs}

pub fails_after : {A B : Type 0} (taken : ℕ) (output : List ℕ) (r : Outcome A) (f : A → Run B) → Fails taken output r → Fails taken output (after r f)
unfolding after
fails_after taken output (Undefined act st) f h = h
fails_after taken output (Gives a st) f h = absurd h
fails_after taken output (Ended st) f h = absurd h
fails_after taken output (Going st) f h = absurd h

-- a part that fails at once, and what would follow
pub fails_then : {A B : Type 0} (taken : ℕ) (output : List ℕ) (m : Run A) (f : A → Run B) (st : State) → Fails taken output (m st) → Fails taken output ((m >>= f) st)
unfolding ◌>>=◌
fails_then taken output m f st h = fails_after taken output (m st) f h

pub fails_leaving : {A : Type 0} (taken : ℕ) (output : List ℕ) (before : State) (r : Outcome A) → Fails taken output r → Fails taken output (leaving (behind_helper before) r)
unfolding leaving
fails_leaving taken output before (Undefined act st) h = h
fails_leaving taken output before (Gives a st) h = absurd h
fails_leaving taken output before (Ended st) h = absurd h
fails_leaving taken output before (Going st) h = absurd h

-- a call within its charge
pub fails_charged : {A : Type 0} (taken : ℕ) (output : List ℕ) (n : ℕ) (m : Run A) (st : State) → st.words + n ≤ 1024 → Fails taken output (m (record st { words = st.words + n })) → Fails taken output (own_charged n m st)
unfolding own_charged own_charged_by
fails_charged taken output n m st le h = subst (λ b. Fails taken output (own_charged_by b n m st)) (sym (le-leb (st.words + n) 1024 le)) (fails_leaving taken output st (m (record st { words = st.words + n })) h)

-- with new objects
pub fails_within : {A : Type 0} (taken : ℕ) (output : List ℕ) (new : List (List Cell)) (m : ℕ → Run A) (st : State) → Fails taken output (m (length st.objects) (record st { objects = st.objects ++ map live_object new })) → Fails taken output (within new m st)
unfolding within enter objects_now with_objects give ◌>>=◌ after
fails_within taken output new m st h = fails_after taken output (m (length st.objects) (record st { objects = st.objects ++ map live_object new })) _ h

taken_whole : (os : List Object) → take (length os) os ++ map dead (drop (length os) os) ≡ os
taken_whole [] = refl
taken_whole (x ∷ os) = ap (λ z. x ∷ z) (taken_whole os)

-- a block without objects leaves what is done in it
pub within_none : {A : Type 0} (m : ℕ → Run A) (st st1 : State) (a : A) → m (length st.objects) st ≡ Gives a st1 → length st1.objects ≡ length st.objects → within [] m st ≡ Gives a st1
unfolding within enter leave objects_now with_objects give ◌>>=◌ after
within_none m st st1 a e same =
    ap (λ os. after (m (length st.objects) (record st { objects = os })) (λ a. leave (length st.objects) >>= λ _. give a)) (append-nil st.objects)
    ∙ (ap (λ z. after z (λ a. leave (length st.objects) >>= λ _. give a)) e ∙ ap (λ os. Gives a (record st1 { objects = os })) (ap (λ n. take n st1.objects ++ map dead (drop n st1.objects)) (sym same) ∙ taken_whole st1.objects))

-- ---- statements

pub do_next : (t : CStmt) (ts : CStmts) (deep : ℕ) (w : World) (here : Environment) (st st1 : State) → does t deep w here st ≡ Gives Next st1 → all_do (MoreStmt t ts) deep w here st ≡ all_do ts deep w (behind t here) st1
unfolding ◌>>=◌ after go_on
do_next t ts deep w here st st1 e = ap (λ z. after z (λ flow. go_on flow (all_do ts deep w (behind t here)))) e

pub do_fails : (taken : ℕ) (output : List ℕ) (t : CStmt) (ts : CStmts) (deep : ℕ) (w : World) (here : Environment) (st : State) → Fails taken output (does t deep w here st) → Fails taken output (all_do (MoreStmt t ts) deep w here st)
do_fails taken output t ts deep w here st h = fails_then taken output (does t deep w here) (λ flow. go_on flow (all_do ts deep w (behind t here))) st h
