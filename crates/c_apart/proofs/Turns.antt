-- A loop of a helper function, run to its end.
use Rattle.std.proofs.Common.{◌≡◌, ℕ, zero, suc, ◌<◌, List, Bool, true, false, ap, ◌∙◌, arith}
use Rattle.c_eval.specs.State.{Object, State}
use Rattle.c_eval.specs.Eval.{Flow, Next}
use Rattle.c_apart.proofs.Apart.{Done, Paused, Part, p_after, p_bind, p_give, p_spend, p_paid, p_choose, p_turned, p_loop}

-- what follows the test
abbrev turn : ℕ → Part Bool → Part Flow → Bool → Part Flow
turn d test body b = p_choose b (p_paid (p_bind body (λ flow. p_turned flow (p_loop d test body)))) (p_give Next)

pub loop_on : (d : ℕ) (test : Part Bool) (body : Part Flow) (st st' : State) (own own' : List Object) (k : ℕ)
    → test st own ≡ Done true st own → st.spare ≡ suc k → body (record st { spare = k }) own ≡ Done Next st' own' → p_loop (suc d) test body st own ≡ p_loop d test body st' own'
unfolding p_loop p_bind p_after p_choose p_paid p_spend p_turned
loop_on d test body st st' own own' k e f g =
    ap (λ z. p_after z (turn d test body)) e ∙ (ap (λ z. p_spend (p_bind body (λ flow. p_turned flow (p_loop d test body))) z st own) f ∙ ap (λ z. p_after z (λ flow. p_turned flow (p_loop d test body))) g)

pub loop_off : (d : ℕ) (test : Part Bool) (body : Part Flow) (st : State) (own : List Object) → test st own ≡ Done false st own → p_loop (suc d) test body st own ≡ Done Next st own
unfolding p_loop p_bind p_after p_choose p_give
loop_off d test body st own e = ap (λ z. p_after z (turn d test body)) e

-- a turn in which the run's units are used up
pub loop_pauses : (d : ℕ) (test : Part Bool) (body : Part Flow) (st st' : State) (own own' : List Object) (k : ℕ)
    → test st own ≡ Done true st own → st.spare ≡ suc k → body (record st { spare = k }) own ≡ Paused st' own' → p_loop (suc d) test body st own ≡ Paused st' own'
unfolding p_loop p_bind p_after p_choose p_paid p_spend
loop_pauses d test body st st' own own' k e f g =
    ap (λ z. p_after z (turn d test body)) e ∙ (ap (λ z. p_spend (p_bind body (λ flow. p_turned flow (p_loop d test body))) z st own) f ∙ ap (λ z. p_after z (λ flow. p_turned flow (p_loop d test body))) g)

-- a turn from n + 1 turns left to n
pub record Turned (test : Part Bool) (body : Part Flow) (Q : State → List Object → Type 0) (st : State) (own : List Object) : Type 0 where
  pub goes : test st own ≡ Done true st own
  pub spare : ℕ
  pub pays : st.spare ≡ suc spare
  pub state : State
  pub objects : List Object
  pub turns : body (record st { spare = spare }) own ≡ Done Next state objects
  pub next : Q state objects

-- where the loop ends
pub record LoopEnded (d : ℕ) (test : Part Bool) (body : Part Flow) (Q : State → List Object → Type 0) (st : State) (own : List Object) : Type 0 where
  pub state : State
  pub objects : List Object
  pub ends : p_loop d test body st own ≡ Done Next state objects
  pub last : Q state objects

-- what holds with n turns left leads to what holds with none
pub loop_ends : (test : Part Bool) (body : Part Flow) (Q : ℕ → State → List Object → Type 0)
    → ((n : ℕ) (st : State) (own : List Object) → Q (suc n) st own → Turned test body (Q n) st own)
    → ((st : State) (own : List Object) → Q 0 st own → test st own ≡ Done false st own)
    → (n d : ℕ) (st : State) (own : List Object) → n < d → Q n st own → LoopEnded d test body (Q 0) st own
loop_ends test body Q step done n zero st own lt q = absurd (omega (arith, lt))
loop_ends test body Q step done zero (suc d) st own lt q = record { state = st; objects = own; ends = loop_off d test body st own (done st own q); last = q }
loop_ends test body Q step done (suc n) (suc d) st own lt q =
    let t = step n st own q in
    let r = loop_ends test body Q step done n d t.state t.objects (omega (arith, lt)) t.next in
    record { state = r.state; objects = r.objects; ends = loop_on d test body st t.state own t.objects t.spare t.goes t.pays t.turns ∙ r.ends; last = r.last }
