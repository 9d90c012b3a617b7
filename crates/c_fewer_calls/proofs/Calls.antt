-- Calls of functions with fewer operators, by induction on the depth.
use Rattle.std.proofs.Common.{◌≡◌, ℕ, zero, suc, ◌+◌, ◌≤◌, List, [], Option, Some, None, Bool, true, false, nat_le, refl, sym, ap, ◌∙◌, subst, arith}
use Rattle.std.specs.Prelude.{codes}
use Rattle.c_types.specs.Scope.{Scope}
use Rattle.c_eval.specs.State.{Value, OutsideObject, State, Outcome, Gives, Ended, Going, Undefined, Run}
use Rattle.c_eval.specs.Run.{after, exit, spend, paid, recharged, charged_by, charged, most_charge}
use Rattle.c_eval.specs.Eval.{World}
use Rattle.c_eval.specs.Text.{Definition, Text, function_named}
use Rattle.c_eval.specs.Meaning.{runs, Rules, world_of, charged_run, call_by, calls_to, opening, run_of, eval}
use Rattle.c_valid.specs.Valid as valid
use Rattle.c_valid.specs.Valid.{AreBytes, IsValid, AreValid, StateIsValid}
use Rattle.c_valid.proofs.Runs.{HelpKeeps, calls_keep}
use Rattle.c_fewer_types.specs.Standing.{ScopesStand}
use Rattle.c_fewer_values.specs.Helping.{Helps}
use Rattle.c_fewer_values.proofs.Runs.{first_is}
use Rattle.c_fewer_meaning.specs.Ordinary.{StaysValid}
use Rattle.c_fewer_meaning.specs.FewerBodiesLaws.{fewer_in_definition}
use Rattle.c_fewer_meaning.proofs.Bodies.{bodies_are_kept}
use Rattle.c_worlds.specs.Named.{IsNamed, AreNamed, StateIsNamed, IsKept, CallsGoAlike}
use Rattle.c_worlds.proofs.Joint.{Both, after_both, undefined_both}
use Rattle.c_worlds.proofs.Walk.{runs_go_alike}
use Rattle.c_fewer_calls.specs.Standing.{plain_rules, FunctionStands, MaybeStands, HelpStays, TextStands}
use Rattle.c_fewer_calls.specs.Laws.{CallsAreKept, RunsAreKept}

-- ---- charges

module _ (P : List ℕ → Type 0) (limit : ℕ) where
  recharged_both : {A : Type 0} {G V : A → Type 0} (c : ℕ) (a : A) → G a → V a → Both P limit G V (recharged c a) (recharged c a)
  unfolding recharged
  recharged_both c a g v = record { both = λ st s u. (refl, (g, s), (v, u)) }

  after_first : {A : Type 0} (r q : Outcome A) (c : ℕ) → r ≡ q → after r (recharged c) ≡ after q (recharged c)
  after_first r q c e = ap (λ z. after z (recharged c)) e

  charged_by_both : {A : Type 0} (G V : A → Type 0) (b : Bool) (c : ℕ) (m n : Run A) (st : State) → Both P limit G V m n → StateIsNamed P limit st → StateIsValid st → (charged_by b c m st ≡ charged_by b c n st) × IsKept P limit G (charged_by b c n st) × valid.IsKept V (charged_by b c n st)
  unfolding charged_by
  charged_by_both G V false c m n st k s v = (refl, s, v)
  charged_by_both G V true c m n st k s v =
      let x = k.both (record st { charge = st.charge + c }) s v in
      let y = after_both P limit G V G V (n (record st { charge = st.charge + c })) (recharged st.charge) (recharged st.charge) x.1 x.2 (λ a g u. recharged_both st.charge a g u) in
      (after_first (m (record st { charge = st.charge + c })) (n (record st { charge = st.charge + c })) st.charge x.0, y.1, y.2)

  charged_both : {A : Type 0} {G V : A → Type 0} (c : ℕ) {m n : Run A} → Both P limit G V m n → Both P limit G V (charged c m) (charged c n)
  unfolding charged
  charged_both {G = G} {V = V} c {m = m} {n = n} k = record { both = λ st s v. charged_by_both G V (nat_le (st.charge + c) most_charge) c m n st k s v }

  -- ---- a unit

  -- so much fuel is no more than that and one unit
  widened : {A : Type 0} (G : A → Type 0) (r : Outcome A) → IsKept P limit G r → IsKept P (suc limit) G r
  widened G (Gives a st) k = let few : st.left ≤ limit = k.1.1 in (k.0, (k.1.0, omega (arith, few)))
  widened G (Ended st) k = let few : st.left ≤ limit = k.1 in (k.0, omega (arith, few))
  widened G (Going st) k = let few : st.left ≤ limit = k.1 in (k.0, omega (arith, few))
  widened G (Undefined act st) k = let few : st.left ≤ limit = k.1 in (k.0, omega (arith, few))

  spent : {A : Type 0} (G V : A → Type 0) (i : ℕ) (m n : Run A) (st : State) → i ≤ suc limit → Both P limit G V m n → StateIsNamed P (suc limit) st → StateIsValid st → (spend m i st ≡ spend n i st) × IsKept P (suc limit) G (spend n i st) × valid.IsKept V (spend n i st)
  unfolding spend
  spent G V zero m n st le k s v = (refl, s, v)
  spent G V (suc i) m n st le k s v =
      let few : i ≤ limit = omega (arith, le) in
      let x = k.both (record st { left = i }) (s.0, few) v in
      (x.0, widened G (n (record st { left = i })) x.1, x.2)

  -- what costs a unit, where one more is left
  pub unit_both : {A : Type 0} {G V : A → Type 0} {m n : Run A} → Both P limit G V m n → Both P (suc limit) G V (paid false m) (paid false n)
  unfolding paid
  unit_both {G = G} {V = V} {m = m} {n = n} k = record { both = λ st s v. spent G V st.left m n st s.1 k s v }

-- without fuel nothing that costs a unit happens
none_left : (P : List ℕ → Type 0) {A : Type 0} (G V : A → Type 0) (i : ℕ) (m n : Run A) (st : State) → i ≤ 0 → StateIsNamed P 0 st → StateIsValid st → (spend m i st ≡ spend n i st) × IsKept P 0 G (spend n i st) × valid.IsKept V (spend n i st)
unfolding spend
none_left P G V zero m n st le s v = (refl, s, v)
none_left P G V (suc i) m n st le s v = absurd (omega (arith, le))

nothing_both : (P : List ℕ → Type 0) {A : Type 0} {G V : A → Type 0} (m n : Run A) → Both P 0 G V (paid false m) (paid false n)
unfolding paid
nothing_both P {G = G} {V = V} m n = record { both = λ st s v. none_left P G V st.left m n st s.1 s v }

-- ---- calls

module _ (test reached : List ℕ → Bool) (charge : List ℕ → ℕ) (rules : Rules) (t t' : Text) (input : List ℕ) (bytes : AreBytes input) (stands : TextStands test reached charge rules t t') where
  abbrev R : List ℕ → Type 0
  R name = reached name ≡ true

  abbrev Q : List ℕ → Type 0
  Q name = test name ≡ true

  abbrev D : ℕ → List ℕ → List Value → Run Value
  D n = calls_to n rules t' input

  abbrev C : ℕ → List ℕ → List Value → Run Value
  C n = calls_to n (plain_rules charge) t input

  abbrev rest' : ℕ → List ℕ → Option Definition → List Value → Run Value
  rest' n name f vs = charged_run rules t' input (D n) n name f vs

  abbrev rest : ℕ → List ℕ → Option Definition → List Value → Run Value
  rest n name f vs = charged_run (plain_rules charge) t input (C n) n name f vs

  -- a call of a helper function is its use
  helped : (n : ℕ) (name : List ℕ) (help : List Value → Run Value) (vs : List Value) (st : State) → rules.helps name ≡ Some help → D (suc n) name vs st ≡ help vs st
  unfolding calls_to call_by
  helped n name help vs st e = ap (λ o. call_by o vs (rest' n name (function_named t' name) vs) st) e

  -- any other call costs a unit
  plainly : (n : ℕ) (name : List ℕ) (vs : List Value) (st : State) → rules.helps name ≡ None → D (suc n) name vs st ≡ paid false (rest' n name (function_named t' name) vs) st
  unfolding calls_to call_by
  plainly n name vs st e = ap (λ o. call_by o vs (rest' n name (function_named t' name) vs) st) e

  before : (n : ℕ) (name : List ℕ) (vs : List Value) → C (suc n) name vs ≡ paid false (rest n name (function_named t name) vs)
  unfolding calls_to call_by
  before n name vs = refl

  -- ---- values stay valid

  rule_keeps : (o : Option (List Value → Run Value)) → HelpStays o → HelpKeeps o
  rule_keeps None h = tt
  rule_keeps (Some help) h = λ vs a. record { keeps = λ st v. h vs st a v }

  stays : (n : ℕ) (name : List ℕ) → StaysValid (world_of t' input name (D n))
  stays n name = record { input = bytes; calls = λ other vs st a v. (calls_keep n rules t' input (λ name. rule_keeps (rules.helps name) (stands.stays name)) stands.limited bytes other vs a).keeps st v }

  helps : (n : ℕ) (owner : List ℕ) (s s' : Scope) → ScopesStand Q s s' → (name : List ℕ) → Q name → Helps (world_of t' input owner (D (suc n))) s' name
  helps n owner s s' a name p = record {
    known = λ u e. let h = (a.names name p).helper u e in (h.0, h.1);
    does = λ action e o vs st b v. let h = (stands.does name p).does action e o in helped n name h.0 vs st h.1 ∙ h.2 vs st b v;
    differs = λ e x y words st b some few v. let h = (stands.does name p).differs e in helped n name h.0 _ st h.1 ∙ h.2 x y words st b some few v;
  }

  -- ---- calls of functions of the text

  abbrev B : ℕ → Run Value → Run Value → Type 0
  B limit m n = Both R limit (IsNamed R) IsValid m n

  function_both : (n : ℕ) (name : List ℕ) (f g : Definition) (vs : List Value) → FunctionStands test reached f g → CallsGoAlike R n (C (suc n)) (D (suc n)) → AreNamed R vs → AreValid vs
      → B n (runs g t'.names (suc n) (world_of t' input name (D (suc n))) vs) (runs f t.names (suc n) (world_of t input name (C (suc n))) vs)
  function_both n name f g vs k ih a b = record {
    both = λ st s v.
        let x = runs_go_alike reached n (world_of t input name (C (suc n))) (D (suc n)) f t.names (suc n) vs st bytes ih k.reaches k.limited a b s v in
        let w : World = world_of t' input name (D (suc n)) in
        let same : runs g t'.names (suc n) w vs st ≡ runs (fewer_in_definition f k.scope) t.names (suc n) w vs st = λ i. runs (k.is i) (stands.objects i) (suc n) w vs st in
        let body : runs (fewer_in_definition f k.scope) t.names (suc n) w vs st ≡ runs f t.names (suc n) w vs st =
        bodies_are_kept test w f k.scope t.names k.around k.behind (suc n) vs st k.stand (helps n name f.scope k.scope k.stand) refl (stays (suc n) name) k.short k.limited k.ordinary k.names k.typed b v in
        (same ∙ (body ∙ x.0), x.1, x.2);
  }

  run_both : (n : ℕ) (name : List ℕ) (o o' : Option Definition) (vs : List Value) → MaybeStands test reached o o' → rules.charge name ≡ charge name → CallsGoAlike R n (C (suc n)) (D (suc n)) → AreNamed R vs → AreValid vs → B n (rest' (suc n) name o' vs) (rest (suc n) name o vs)
  unfolding charged_run
  run_both n name None None vs k e ih a b = undefined_both R n OutsideObject
  run_both n name (Some f) (Some g) vs k e ih a b =
      subst (λ c. B n (charged c (runs g t'.names (suc n) (world_of t' input name (D (suc n))) vs)) (charged (charge name) (runs f t.names (suc n) (world_of t input name (C (suc n))) vs))) (sym e) (charged_both R n (charge name) (function_both n name f g vs k ih a b))
  run_both n name None (Some g) vs k e ih a b = absurd k
  run_both n name (Some f) None vs k e ih a b = absurd k

  called_by : (n : ℕ) (name : List ℕ) (vs : List Value) (st : State) → R name → B n (paid false (rest' n name (function_named t' name) vs)) (paid false (rest n name (function_named t name) vs)) → StateIsNamed R n st → StateIsValid st
      → (D (suc n) name vs st ≡ C (suc n) name vs st) × IsKept R n (IsNamed R) (C (suc n) name vs st) × valid.IsKept IsValid (C (suc n) name vs st)
  called_by n name vs st r k s v =
      let x = k.both st s v in
      subst (λ m. (D (suc n) name vs st ≡ m st) × IsKept R n (IsNamed R) (m st) × valid.IsKept IsValid (m st)) (sym (before n name vs)) (plainly n name vs st (stands.own name r) ∙ x.0, x.1, x.2)

  called : (n : ℕ) → CallsGoAlike R n (C (suc n)) (D (suc n))
  called zero name vs st r a b s v = called_by zero name vs st r (nothing_both R (rest' zero name (function_named t' name) vs) (rest zero name (function_named t name) vs)) s v
  called (suc n) name vs st r a b s v =
      called_by (suc n) name vs st r (unit_both R n (run_both n name (function_named t name) (function_named t' name) vs (stands.functions name r) (stands.charges name r) (called n) a b)) s v

  -- the opening call
  opened : (fuel : ℕ) → R (codes "main") → B fuel (rest' (suc fuel) (codes "main") (function_named t' (codes "main")) []) (rest (suc fuel) (codes "main") (function_named t (codes "main")) [])
  opened fuel r = run_both fuel (codes "main") (function_named t (codes "main")) (function_named t' (codes "main")) [] (stands.functions (codes "main") r) (stands.charges (codes "main") r) (called fuel) tt tt

pub calls_are_kept : CallsAreKept
calls_are_kept test reached charge rules t t' input n bytes stands = called test reached charge rules t t' input bytes stands n

pub runs_are_kept : RunsAreKept
unfolding run_of eval
runs_are_kept test reached charge rules t t' input fuel bytes stands main same named fine =
    let m : Run Value = charged_run rules t' input (calls_to (suc fuel) rules t' input) (suc fuel) (codes "main") (function_named t' (codes "main")) [] in
    let n : Run Value = charged_run (plain_rules charge) t input (calls_to (suc fuel) (plain_rules charge) t input) (suc fuel) (codes "main") (function_named t (codes "main")) [] in
    let few : fuel ≤ fuel = omega arith in
    let begins : opening t' fuel ≡ opening t fuel = ap (λ os. record { objects = os; left = fuel; spare = 0; words = 0; charge = 0; taken = 0; output = [] }) same in
    let x = (opened test reached charge rules t t' input bytes stands fuel main).both (opening t fuel) (named, few) fine in
    ap (λ st. run_of rules t' input fuel st) begins ∙ first_is m n (λ _. exit) (opening t fuel) x.0
