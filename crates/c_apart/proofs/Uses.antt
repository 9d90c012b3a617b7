-- A call of a helper function gives what its part apart gives.
use Rattle.std.proofs.Common.{◌≡◌, ℕ, zero, suc, ◌+◌, ◌-◌, ◌<◌, ◌≤◌, List, [], ◌∷◌, ◌++◌, length, Some, None, Bool, true, false, nat_le, refl, sym, ap, ◌∙◌, subst, arith, take, append-nil, cond}
use Rattle.std.specs.Prelude.{◌&&◌}
use Rattle.std.proofs.lemmas.Bool.{le-leb, leb-true, and_parts}
use Rattle.std.proofs.lemmas.List.{take-append-le}
use Rattle.c_eval.specs.State.{Value, Object, State, Act, Outcome, Gives, Going, Undefined, Run}
use Rattle.c_eval.specs.Run.{paid, spend_spare}
use Rattle.c_eval.specs.Text.{Definition, Text, function_named}
use Rattle.c_eval.specs.Meaning.{runs}
use Rattle.c_eval.specs.Helpers.{Helpers, leaving, behind_use, helped, behind_helper, own_charged_by, own_charged, helper_world, helper_runs, known_or, helper_calls, guarded, use_depth, helps_to}
use Rattle.c_apart.proofs.Apart.{Out, Done, Paused, Stuck, Part, p_function, p_computed}
use Rattle.c_apart.proofs.Splitting.{Joins, Split, joined, itself}
use Rattle.c_apart.proofs.Splits.{function_splits}

taken : (n : ℕ) (xs ys : List Object) → length xs ≡ n → take n (xs ++ ys) ≡ xs
taken n xs ys e = ap (λ k. take k (xs ++ ys)) (sym e) ∙ (take-append-le (length xs) xs ys (omega arith) ∙ whole xs)
  where
    whole : (xs : List Object) → take (length xs) xs ≡ xs
    whole [] = refl
    whole (x ∷ xs) = ap (λ z. x ∷ z) (whole xs)

-- what a call gives, by the part apart
abbrev pub Apart : {A : Type 0} → Out A → ℕ → Outcome A → Type 0
Apart (Done a st own) w r = r ≡ Gives a (record st { words = w })
Apart (Paused st own) w r = r ≡ Going (record st { words = w })
Apart Stuck w r = Unit {0}

cut_apart : {A : Type 0} (before : State) (o : Out A) (r : Outcome A) → Joins (length before.objects) itself o r → Apart o before.words (leaving (behind_helper before) r)
unfolding leaving
cut_apart before (Done a st own) r (e, l) = ap (leaving (behind_helper before)) e ∙ ap (λ os. Gives a (record st { objects = os; words = before.words })) (taken (length before.objects) st.objects own l)
cut_apart before (Paused st own) r (e, l) = ap (leaving (behind_helper before)) e ∙ ap (λ os. Going (record st { objects = os; words = before.words })) (taken (length before.objects) st.objects own l)
cut_apart before Stuck r h = tt

-- the text, its helper functions and the input are given
module _ (h : Helpers) (t : Text) (input : List ℕ) where
  pub call_apart : (deep : ℕ) (calls : List ℕ → List Value → Run Value) (sub : List ℕ → List Value → Part Value) (name : List ℕ) (f : Definition) (vs : List Value) (st : State)
      → ((g : List ℕ) (us : List Value) → Split (length st.objects) itself (sub g us) (calls g us)) → st.words + h.charge name ≤ 1024
      → Apart (p_function f deep sub vs (record st { words = st.words + h.charge name }) []) st.words (helper_runs h t input calls deep name (Some f) vs st)
  unfolding helper_runs own_charged own_charged_by
  call_apart deep calls sub name f vs st called le =
      let joins = (function_splits (length st.objects) (helper_world t input name calls) refl sub called f deep vs).follows st1 [] refl in
      let cut = cut_apart st (p_function f deep sub vs st1 []) (m (joined st1 [])) joins in
      subst (λ b. Apart (p_function f deep sub vs st1 []) st.words (own_charged_by b (h.charge name) m st)) (sym (le-leb (st.words + h.charge name) 1024 le)) (subst (λ z. Apart (p_function f deep sub vs st1 []) st.words (leaving (behind_helper st) (m z))) (sym alone) cut)
    where
      m : Run Value
      m = runs f [] deep (helper_world t input name calls) vs

      st1 : State
      st1 = record st { words = st.words + h.charge name }

      alone : st1 ≡ joined st1 []
      alone = λ i. record st1 { objects = sym (append-nil st.objects) i }

  -- a call of a helper function that only computes: with so many units of the second fuel it gives a value, and changes nothing else
  pub record Computes (name : List ℕ) (units words : ℕ) (vs : List Value) (v : Value) : Type 0 where
    pub runs_to : (deep : ℕ) (st : State) → units < deep → units ≤ st.spare → st.words + words ≤ 1024 → helper_runs h t input (helper_calls deep h t input) deep name (function_named t name) vs st ≡ Gives v (record st { spare = st.spare - units })

  pub computes : (name : List ℕ) (f : Definition) (units words : ℕ) (vs : List Value) (v : Value) → function_named t name ≡ Some f → h.charge name ≤ words
      → (sub : ℕ → List ℕ → List Value → Part Value) → ((deep : ℕ) → units < deep → (n : ℕ) (g : List ℕ) (us : List Value) → Split n itself (sub deep g us) (helper_calls deep h t input g us))
      → ((deep k : ℕ) (st : State) → units < deep → st.spare ≡ units + k → st.words + words ≤ 1024 → (own : List Object) × (p_function f deep (sub deep) vs (record st { words = st.words + h.charge name }) [] ≡ Done v (record st { spare = k; words = st.words + h.charge name }) own))
      → Computes name units words vs v
  computes name f units words vs v found fits sub called apart = record { runs_to = go }
    where
      go : (deep : ℕ) (st : State) → units < deep → units ≤ st.spare → st.words + words ≤ 1024 → helper_runs h t input (helper_calls deep h t input) deep name (function_named t name) vs st ≡ Gives v (record st { spare = st.spare - units })
      go deep st lt le small =
          let r = apart deep (st.spare - units) st lt (omega (arith, le)) small in
          ap (λ z. helper_runs h t input (helper_calls deep h t input) deep name z vs st) found
          ∙ subst (λ z. Apart z st.words (helper_runs h t input (helper_calls deep h t input) deep name (Some f) vs st)) r.1 (call_apart deep (helper_calls deep h t input) (sub deep) name f vs st (called deep lt (length st.objects)) (omega (arith, fits, small)))

  paid_for : (name : List ℕ) (units words : ℕ) (vs : List Value) (v : Value) (deep : ℕ) → h.known name ≡ None → Computes name units words vs v → units < deep → (st : State) (k : ℕ) → st.spare ≡ k → suc units ≤ k → st.words + words ≤ 1024
      → helper_calls (suc deep) h t input name vs st ≡ Gives v (record st { spare = st.spare - suc units })
  unfolding helper_calls known_or paid spend_spare
  paid_for name units words vs v deep unknown c lt st zero e le small = absurd (omega (arith, le))
  paid_for name units words vs v deep unknown c lt st (suc k) e le small =
      ap (λ z. known_or z vs (paid true (helper_runs h t input (helper_calls deep h t input) deep name (function_named t name) vs)) st) unknown
      ∙ (ap (λ z. spend_spare (helper_runs h t input (helper_calls deep h t input) deep name (function_named t name) vs) z st) e
      ∙ (c.runs_to deep (record st { spare = k }) lt (omega (arith, le)) small ∙ ap (λ z. Gives v (record st { spare = z })) (omega (arith, e))))

  pub nested : (name : List ℕ) (units words : ℕ) (vs : List Value) (v : Value) → h.known name ≡ None → Computes name units words vs v → (deep n : ℕ) → suc units < deep → Split n itself (p_computed (suc units) words v) (helper_calls deep h t input name vs)
  unfolding p_computed
  nested name units words vs v unknown c zero n lt = absurd (omega (arith, lt))
  nested name units words vs v unknown c (suc deep) n lt = record { follows = λ st own l. go st own l (nat_le (suc units) st.spare && nat_le (st.words + words) 1024) refl }
    where
      go : (st : State) (own : List Object) → length st.objects ≡ n → (b : Bool) → (nat_le (suc units) st.spare && nat_le (st.words + words) 1024) ≡ b → Joins n itself (cond b (Done v (record st { spare = st.spare - suc units }) own) Stuck) (helper_calls (suc deep) h t input name vs (joined st own))
      go st own l true e = let both = and_parts (nat_le (suc units) st.spare) (nat_le (st.words + words) 1024) e in (paid_for name units words vs v deep unknown c (omega (arith, lt)) (joined st own) st.spare refl (leb-true (suc units) st.spare both.0) (leb-true (st.words + words) 1024 both.1), l)
      go st own l false e = tt

  -- ---- uses

  -- what a use does behind its operator
  abbrev pub use_of : List ℕ → List Value → Run Value
  use_of name vs st = helped h.ration (helper_runs h t input (helper_calls (use_depth h.ration st.left) h t input) (use_depth h.ration st.left) name (function_named t name) vs) st

  -- where the operator is undefined, so is the call
  pub use_undefined : (name : List ℕ) (vs : List Value) (operator : List Value → Run Value) (st st1 : State) (act : Act) → operator vs st ≡ Undefined act st1 → helps_to h t input name operator vs st ≡ operator vs st
  unfolding helps_to guarded
  use_undefined name vs operator st st1 act e = ap (λ z. guarded z (use_of name vs st)) e ∙ sym e

  -- where both give, or both pause, the call is the operator
  pub use_gives : (name : List ℕ) (vs : List Value) (operator : List Value → Run Value) (st st1 : State) (v : Value) → operator vs st ≡ Gives v st1 → use_of name vs st ≡ Gives v st1 → helps_to h t input name operator vs st ≡ operator vs st
  unfolding helps_to guarded
  use_gives name vs operator st st1 v e f = ap (λ z. guarded z (use_of name vs st)) e ∙ (f ∙ sym e)

  pub use_pauses : (name : List ℕ) (vs : List Value) (operator : List Value → Run Value) (st st1 : State) → operator vs st ≡ Going st1 → use_of name vs st ≡ Going st1 → helps_to h t input name operator vs st ≡ operator vs st
  unfolding helps_to guarded
  use_pauses name vs operator st st1 e f = ap (λ z. guarded z (use_of name vs st)) e ∙ (f ∙ sym e)

  -- a use that gives a value and changes nothing
  pub use_computes : (name : List ℕ) (units words : ℕ) (vs : List Value) (v : Value) → Computes name units words vs v → units ≤ h.ration → words ≤ 1024 → (operator : List Value → Run Value) (st : State) → operator vs st ≡ Gives v st → helps_to h t input name operator vs st ≡ operator vs st
  unfolding helped leaving
  use_computes name units words vs v c enough small operator st e =
      use_gives name vs operator st st v e (ap (leaving (behind_use st)) (c.runs_to (use_depth h.ration st.left) (record st { spare = h.ration; words = 0 }) (omega (arith, enough, deep_enough)) enough (omega (arith, small))))
    where
      deep_enough : h.ration < use_depth h.ration st.left
      deep_enough = omega arith
