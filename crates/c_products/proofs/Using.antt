-- What a use gives, by its part apart.
use Rattle.std.proofs.Common.{◌≡◌, ℕ, ◌+◌, ◌<◌, ◌≤◌, List, [], Some, true, ap, ap₂, ◌∙◌, subst, arith, ◌^◌}
use Rattle.std.specs.Prelude.{◌&&◌}
use Rattle.std.proofs.lemmas.Bool.{lt-ltb, le-leb}
use Rattle.c_eval.specs.State.{Value, Object, State, Gives}
use Rattle.c_eval.specs.Text.{Definition, Text, function_named}
use Rattle.c_eval.specs.Helpers.{Helpers, leaving, behind_use, helped, helper_runs, helper_calls, use_depth}
use Rattle.c_apart.proofs.Apart.{Done, Part, p_function}
use Rattle.c_apart.proofs.Splitting.{Split, itself}
use Rattle.c_apart.proofs.Uses.{Apart, call_apart, use_of}
use Rattle.c_products.proofs.Uses.{words_are, stays, may_sum}

-- the moment at which a use begins, its function's charge being live
abbrev pub use_start : Helpers → List ℕ → State → State
use_start h name st = record st { spare = h.ration; words = 0 + h.charge name }

module _ (h : Helpers) (t : Text) (input : List ℕ) where
  pub use_done : (name : List ℕ) (f : Definition) (vs : List Value) (st st1 : State) (v : Value) (objects : List Object) (sub : List ℕ → List Value → Part Value) → function_named t name ≡ Some f → h.charge name ≤ 16
      → ((n : ℕ) (g : List ℕ) (us : List Value) → Split n itself (sub g us) (helper_calls (use_depth h.ration st.left) h t input g us))
      → p_function f (use_depth h.ration st.left) sub vs (use_start h name st) [] ≡ Done v st1 objects → use_of h t input name vs st ≡ Gives v (record st1 { spare = st.spare; words = st.words })
  unfolding helped leaving
  use_done name f vs st st1 v objects sub found few splits runs =
      ap (leaving (behind_use st)) (ap (λ z. helper_runs h t input (helper_calls deep h t input) deep name z vs st0) found ∙ subst (λ z. Apart z 0 (helper_runs h t input (helper_calls deep h t input) deep name (Some f) vs st0)) runs apart)
    where
      deep : ℕ
      deep = use_depth h.ration st.left

      st0 : State
      st0 = record st { spare = h.ration; words = 0 }

      apart : Apart (p_function f deep sub vs (use_start h name st) []) 0 (helper_runs h t input (helper_calls deep h t input) deep name (Some f) vs st0)
      apart = call_apart h t input deep (helper_calls deep h t input) sub name f vs st0 (λ g us. splits _ g us) (omega (arith, few))

  -- the function of sums can be called in a use
  pub may_be : (name : List ℕ) (st : State) (p : Value) (x k : ℕ) → 2 ^ 9 ≤ h.ration → h.charge name ≤ 16 → x < 2 ^ 24 → k < 2 ^ 24 → stays st p x k ≡ true → may_sum (use_depth h.ration st.left) (use_start h name st) p x k ≡ true
  unfolding may_sum
  may_be name st p x k enough few sx sk inside =
      ap₂ (λ a b. a && b) (ap₂ (λ a b. a && b) (ap₂ (λ a b. a && b) (ap₂ (λ a b. a && b) (words_are x k sx sk) (lt-ltb 26 (use_depth h.ration st.left) deep)) (le-leb 26 h.ration (omega (arith, enough)))) (le-leb (0 + h.charge name + 32) 1024 (omega (arith, few)))) inside
    where
      deep : 26 < use_depth h.ration st.left
      deep = let more : h.ration < use_depth h.ration st.left = omega arith in omega (arith, more, enough)
