-- Loops, blocks and flows whose parts do the same do the same.
use Rattle.std.proofs.Common.{◌≡◌, ℕ, zero, suc, ◌+◌, List, ◌++◌, length, Bool, true, false, refl, ap, ◌∙◌}
use Rattle.std.specs.Prelude.{map, if◌then◌else◌}
use Rattle.c_eval.specs.State.{Value, Word, Null, Point, Letter, Function, Missing, Cell, State, Run}
use Rattle.c_eval.specs.Run.{◌>>=◌, give, choose, spend, spend_spare, paid, stop}
use Rattle.c_eval.specs.Memory.{live_object, enter, leave, within}
use Rattle.c_eval.specs.Operators.{of_word}
use Rattle.c_eval.specs.Eval.{Flow, Next, Broke, Continued, Returned, go_on, turned, loop, do_loop}
use Rattle.c_valid.specs.Valid.{StateIsValid}
use Rattle.c_valid.proofs.Keeping.{Keeps, Any, bind_keeps, give_keeps, objects_now_keeps, with_objects_keeps}
use Rattle.c_valid.proofs.Objects.{NewAreValid, entered_valid}
use Rattle.c_valid.proofs.Meanings.{FlowIsValid}
use Rattle.c_fewer_values.proofs.Runs.{bind_same, first_is}
use Rattle.c_fewer_meaning.proofs.Same.{Agree, bind_agree, chosen_agree}

pub itself : {A : Type 0} (m : Run A) → Agree m m
itself m st v = refl

pub if_agree : {A : Type 0} (b : Bool) (m n o p : Run A) → Agree m o → Agree n p → Agree (if b then m else n) (if b then o else p)
if_agree true m n o p h k = h
if_agree false m n o p h k = k

-- ---- units

spend_agree : {A : Type 0} (n : ℕ) (m k : Run A) (st : State) → Agree m k → StateIsValid st → spend m n st ≡ spend k n st
unfolding spend
spend_agree zero m k st h v = refl
spend_agree (suc n) m k st h v = h (record st { left = n }) v

spare_agree : {A : Type 0} (n : ℕ) (m k : Run A) (st : State) → Agree m k → StateIsValid st → spend_spare m n st ≡ spend_spare k n st
unfolding spend_spare
spare_agree zero m k st h v = refl
spare_agree (suc n) m k st h v = h (record st { spare = n }) v

paid_agree : {A : Type 0} (inner : Bool) (m k : Run A) → Agree m k → Agree (paid inner m) (paid inner k)
unfolding paid
paid_agree false m k h st v = spend_agree st.left m k st h v
paid_agree true m k h st v = spare_agree st.spare m k st h v

-- ---- flows

pub go_on_agree : (flow : Flow) (m n : Run Flow) → Agree m n → Agree (go_on flow m) (go_on flow n)
unfolding go_on
go_on_agree Next m n h = h
go_on_agree Broke m n h = itself (give Broke)
go_on_agree Continued m n h = itself (give Continued)
go_on_agree (Returned v) m n h = itself (give (Returned v))

turned_agree : (flow : Flow) (m n : Run Flow) → Agree m n → Agree (turned flow m) (turned flow n)
unfolding turned
turned_agree Next m n h = h
turned_agree Continued m n h = h
turned_agree Broke m n h = itself (give Next)
turned_agree (Returned v) m n h = itself (give (Returned v))

-- ---- loops

-- what follows the condition of a loop
abbrev turn : Bool → ℕ → Run Bool → Run (Unit {0}) → Run Flow → Bool → Run Flow
turn inner n test step body b = choose b (paid inner (body >>= λ flow. turned flow (step >>= λ _. loop inner n test step body))) (give Next)

pub loop_agree : (n : ℕ) (inner : Bool) (test' test : Run Bool) (step' step : Run (Unit {0})) (body' body : Run Flow) → Agree test' test → Keeps Any test → Agree step' step → Keeps Any step → Agree body' body → Keeps FlowIsValid body
    → Agree (loop inner n test' step' body') (loop inner n test step body)
unfolding loop
loop_agree zero inner test' test step' step body' body a t b s c k = itself stop
loop_agree (suc n) inner test' test step' step body' body a t b s c k =
    bind_agree Any test' test (turn inner n test' step' body') (turn inner n test step body) a t
    (λ x _. chosen_agree x (paid inner (body' >>= λ flow. turned flow (step' >>= λ _. loop inner n test' step' body'))) (give Next) (paid inner (body >>= λ flow. turned flow (step >>= λ _. loop inner n test step body))) (give Next)
    (paid_agree inner (body' >>= λ flow. turned flow (step' >>= λ _. loop inner n test' step' body')) (body >>= λ flow. turned flow (step >>= λ _. loop inner n test step body))
    (bind_agree FlowIsValid body' body (λ flow. turned flow (step' >>= λ _. loop inner n test' step' body')) (λ flow. turned flow (step >>= λ _. loop inner n test step body)) c k
    (λ flow _. turned_agree flow (step' >>= λ _. loop inner n test' step' body') (step >>= λ _. loop inner n test step body)
    (bind_agree Any step' step (λ _. loop inner n test' step' body') (λ _. loop inner n test step body) b s (λ _ _. loop_agree n inner test' test step' step body' body a t b s c k)))))
    (itself (give Next)))

pub do_loop_agree : (n : ℕ) (inner : Bool) (test' test : Run Bool) (body' body : Run Flow) → Agree test' test → Keeps Any test → Agree body' body → Keeps FlowIsValid body → Agree (do_loop inner n test' body') (do_loop inner n test body)
unfolding do_loop
do_loop_agree zero inner test' test body' body a t c k = itself stop
do_loop_agree (suc n) inner test' test body' body a t c k =
    paid_agree inner (body' >>= λ flow. turned flow (test' >>= λ b. choose b (do_loop inner n test' body') (give Next))) (body >>= λ flow. turned flow (test >>= λ b. choose b (do_loop inner n test body) (give Next)))
    (bind_agree FlowIsValid body' body (λ flow. turned flow (test' >>= λ b. choose b (do_loop inner n test' body') (give Next))) (λ flow. turned flow (test >>= λ b. choose b (do_loop inner n test body) (give Next))) c k
    (λ flow _. turned_agree flow (test' >>= λ b. choose b (do_loop inner n test' body') (give Next)) (test >>= λ b. choose b (do_loop inner n test body) (give Next))
    (bind_agree Any test' test (λ b. choose b (do_loop inner n test' body') (give Next)) (λ b. choose b (do_loop inner n test body) (give Next)) a t
    (λ b _. chosen_agree b (do_loop inner n test' body') (give Next) (do_loop inner n test body) (give Next) (do_loop_agree n inner test' test body' body a t c k) (itself (give Next))))))

-- ---- blocks

enter_keeps : (new : List (List Cell)) → NewAreValid new → Keeps Any (enter new)
unfolding enter
enter_keeps new fits = bind_keeps objects_now_keeps (λ os valid. bind_keeps (with_objects_keeps (os ++ map live_object new) (entered_valid os new valid fits)) (λ _ _. give_keeps (length os) tt))

-- the body of a block and its end
abbrev ending : {A : Type 0} → (ℕ → Run A) → ℕ → Run A
ending body n = body n >>= λ a. leave n >>= λ _. give a

pub within_agree : {A : Type 0} (new' new : List (List Cell)) (body' body : ℕ → Run A) → new' ≡ new → NewAreValid new → ((n : ℕ) → Agree (body' n) (body n)) → Agree (within new' body') (within new body)
unfolding within
within_agree new' new body' body e fits h st v =
    ap (λ z. (enter z >>= ending body') st) e
    ∙ bind_same Any (enter new) (ending body') (ending body) st (enter_keeps new fits) v (λ n st _ s. first_is (body' n) (body n) (λ a. leave n >>= λ _. give a) st (h n st s))

pub of_word_agree : {A : Type 0} (v : Value) (f g : ℕ → Run A) → ((n : ℕ) → Agree (f n) (g n)) → Agree (of_word v f) (of_word v g)
unfolding of_word
of_word_agree (Word n) f g h = h n
of_word_agree Null f g h = λ st v. refl
of_word_agree (Point o k) f g h = λ st v. refl
of_word_agree (Letter o i text k) f g h = λ st v. refl
of_word_agree (Function name) f g h = λ st v. refl
of_word_agree Missing f g h = λ st v. refl
