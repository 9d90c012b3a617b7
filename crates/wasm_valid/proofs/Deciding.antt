-- What the walk answers is what the types say.
use Rattle.std.proofs.Common.{◌≡◌, ℕ, suc, ◌+◌, ◌<◌, Bool, true, false, List, [], ◌∷◌, ◌++◌, length, drop, get_or, Option, Some, None, refl, sym, ap, subst, ◌∙◌, arith, add-one, drop-cons, append-nil}
use Rattle.std.specs.Prelude.{nat_eq, MatchBool}
use Rattle.std.specs.Option.{option_and_then}
use Rattle.std.proofs.lemmas.List.{same_from_push}
use Rattle.wasm_bin.specs.declared.module.Instr.{Instr}
use Rattle.wasm_bin.specs.declared.module.Instr.TheVariants as instr
use Rattle.wasm_valid.specs.Context.{Context}
use Rattle.wasm_valid.specs.Nesting.{Code, spelled}
use Rattle.wasm_valid.specs.Typing.{IsTypedExpression}
use Rattle.wasm_valid.specs.Levels.{Level, at_start, is_allowed}
use Rattle.wasm_valid.specs.Checking.{Frame, State, step, walk, first_state, is_last, option_any, accepts, Leads}
use Rattle.wasm_valid.proofs.Levels.{MayAllow, and_both, true_eq, is_allowed-true, Allows-is_allowed}
use Rattle.wasm_valid.proofs.Flow.{flow, flow-allows, allows-flow, inside-type}
use Rattle.wasm_valid.proofs.Walking.{IsNested, IsNested-typed, at_level, walk-spelled}
use Rattle.wasm_valid.proofs.Parsing.{nested_by_walk}

record Walked (o : Option State) (test : State → Bool) : Type 0 where
  pub state : State
  pub is : o ≡ Some state
  pub passes : test state ≡ true

walked : (o : Option State) (test : State → Bool) → option_any test o ≡ true → Walked o test
walked None test e = cc
walked (Some s) test e = record { state = s; is = refl; passes = e }

no_frames : (frames : List Frame) → nat_eq (length frames) 0 ≡ true → frames ≡ []
no_frames [] e = refl
no_frames (f ∷ frames) e = let none : length (f ∷ frames) ≡ 0 = true_eq (length (f ∷ frames)) 0 e in absurd (omega arith)

-- behind nested code in no block
behind : (c : Context) (code : Code) → IsNested code → walk c (spelled code) first_state ≡ option_and_then (λ m. Some (at_level [] m)) (flow c (c.results ∷ []) code at_start)
behind c code n = ap (λ l. walk c l first_state) (sym (append-nil (spelled code))) ∙ walk-spelled code c [] [] at_start n

left_allows : (o : Option Level) (s : State) (n : ℕ) → option_and_then (λ m. Some (at_level [] m)) o ≡ Some s → is_allowed s.level n ≡ true → MayAllow o n
left_allows None s n e h = cc
left_allows (Some m) s n e h =
    let same : at_level [] m ≡ s = cc in
    Allows-is_allowed m n (ap (λ (x : State). is_allowed x.level n) same ∙ h)

allows_last : (o : Option Level) (n : ℕ) → MayAllow o n → option_any (is_last n) (option_and_then (λ m. Some (at_level [] m)) o) ≡ true
allows_last None n h = absurd h
allows_last (Some m) n h = is_allowed-true m n h

-- code that is walked over is typed
pub accepted_typed : (c : Context) (front : List Instr) → accepts c front ≡ true → IsTypedExpression c (front ++ instr.End ∷ [])
accepted_typed c front e =
    let w = walked (walk c front first_state) (is_last c.results) e in
    let last = and_both (nat_eq (length w.state.frames) 0) (is_allowed w.state.level c.results) w.passes in
    let tree = nested_by_walk front c at_start w.state w.is (no_frames w.state.frames last.0) in
    let is : walk c (spelled tree.0) first_state ≡ Some w.state = ap (λ l. walk c l first_state) (sym tree.2) ∙ w.is in
    let left = left_allows (flow c (c.results ∷ []) tree.0 at_start) w.state c.results (sym (behind c tree.0 tree.1) ∙ is) last.1 in
    (tree.0, ap (λ (l : List Instr). l ++ instr.End ∷ []) tree.2, inside-type tree.0 c (c.results ∷ []) c.results (allows-flow tree.0 c (c.results ∷ [])) left)

-- typed code is walked over
pub typed_accepted : (c : Context) (front : List Instr) → IsTypedExpression c (front ++ instr.End ∷ []) → accepts c front ≡ true
typed_accepted c front (code, e, h) =
    let same = (same_from_push front (spelled code) instr.End instr.End e).0 in
    ap (λ l. option_any (is_last c.results) (walk c l first_state)) same
    ∙ (ap (option_any (is_last c.results)) (behind c code (IsNested-typed code c (c.results ∷ []) 0 c.results h))
    ∙ allows_last (flow c (c.results ∷ []) code at_start) c.results (flow-allows code c (c.results ∷ []) at_start 0 c.results refl h))

leads_on : (c : Context) (o : Option State) (code : List Instr) (t : State) (going : Bool) → Leads o going t → going ≡ true → option_and_then (walk c code) o ≡ walk c code t
leads_on c None code t going h e = absurd cc
leads_on c (Some s) code t going h e = ap (walk c code) (sym h.1)

pub leads_is : (o : Option State) (t : State) (going : Bool) → Leads o going t → going ≡ true → o ≡ Some t
leads_is None t going h e = cc
leads_is (Some s) t going h e = ap (λ x. Some x) (sym h.1)

cut : (code : List Instr) (k : ℕ) (i : Instr) → k < length code → i ≡ get_or code k i → drop k code ≡ i ∷ drop (k + 1) code
cut code k i lt is = rw (add-one) (drop-cons code k i lt ∙ ap (λ x. x ∷ drop (suc k) code) (sym is))

-- one instruction more is walked over
pub walk_more : (c : Context) (code : List Instr) (k : ℕ) (i : Instr) (s t : State) (going : Bool) → k < length code → i ≡ get_or code k i → Leads (step c i s) going t → going ≡ true → walk c (drop k code) s ≡ walk c code first_state → walk c (drop (k + 1) code) t ≡ walk c code first_state
walk_more c code k i s t going lt is h e before =
    sym (leads_on c (step c i s) (drop (k + 1) code) t going h e)
    ∙ (ap (λ l. walk c l s) (sym (cut code k i lt is)) ∙ before)

-- what the answer for the front says of the code
pub answered : (c : Context) (front code : List Instr) → code ≡ front ++ instr.End ∷ [] → (yes : Bool) → yes ≡ accepts c front → MatchBool yes (IsTypedExpression c code) (IsTypedExpression c code → ⊥)
answered c front code e true h = subst (IsTypedExpression c) (sym e) (accepted_typed c front (sym h))
answered c front code e false h = λ typed. let f : true ≡ false = sym (typed_accepted c front (subst (IsTypedExpression c) e typed)) ∙ sym h in absurd cc
