-- Uses of helper functions keep values valid.
use Rattle.std.proofs.Common.{◌≡◌, ℕ, zero, suc, ◌+◌, List, [], ◌∷◌, length, Option, Some, None, Bool, true, false, nat_le, refl, subst, cond, take}
use Rattle.std.specs.List.{find}
use Rattle.std.specs.Str.{bytes_eq}
use Rattle.c_eval.specs.State.{Value, Missing, OutsideObject, Object, State, Outcome, Gives, Ended, Going, Undefined, Run}
use Rattle.c_eval.specs.Run.{◌>>=◌, give, paid}
use Rattle.c_eval.specs.Text.{Definition, Text, function_named}
use Rattle.c_eval.specs.Helpers.{Helpers, leaving, refill, behind_use, helped, behind_helper, own_charged_by, own_charged, helper_world, helper_runs, known_or, helper_calls, guarded, use_depth, helps_to}
use Rattle.c_valid.specs.Valid.{AreBytes, IsValid, AreValid, ObjectsAreValid, StateIsValid, IsKept}
use Rattle.c_valid.specs.Limited.{StmtIsLimited}
use Rattle.c_valid.specs.Laws.{FunctionsAreLimited}
use Rattle.c_valid.proofs.Keeping.{Keeps, Any, bind_keeps, give_keeps, undefined_keeps, stop_keeps, paid_keeps, put_keeps}
use Rattle.c_valid.proofs.Objects.{IfSome}
use Rattle.c_valid.proofs.Operators.{of_word_keeps}
use Rattle.c_valid.proofs.Runs.{runs_keep}
use Rattle.c_helpers.specs.Functions.{unit_name, refill_name, piece_name}
use Rattle.c_helpers.specs.Meanings.{Action, of_one, piece_put, known_to_helpers}
use Rattle.c_worlds.specs.ActionsLaws.{UsesStayValid}
use Rattle.c_worlds.proofs.Actions.{ActionKeeps, of_one_keeps, EachKeeps, found_keeps, named_keeps}

-- ---- the end of a use, and of a helper function

leaving_keeps : {A : Type 0} (G : A → Type 0) (f : State → State) (r : Outcome A) → ((st : State) → StateIsValid st → StateIsValid (f st)) → IsKept G r → IsKept G (leaving f r)
unfolding leaving
leaving_keeps G f (Gives a st) h k = (k.0, h st k.1)
leaving_keeps G f (Ended st) h k = h st k
leaving_keeps G f (Going st) h k = h st k
leaving_keeps G f (Undefined act st) h k = h st k

helped_keeps : {A : Type 0} {G : A → Type 0} (ration : ℕ) {m : Run A} → Keeps G m → Keeps G (helped ration m)
unfolding helped
helped_keeps {G = G} ration {m = m} k = record { keeps = λ st v. leaving_keeps G (behind_use st) (m (record st { spare = ration; words = 0 })) (λ q w. w) (k.keeps (record st { spare = ration; words = 0 }) v) }

taken_valid : (n : ℕ) (os : List Object) → ObjectsAreValid os → ObjectsAreValid (take n os)
taken_valid zero [] v = tt
taken_valid zero (x ∷ xs) v = tt
taken_valid (suc n) [] v = tt
taken_valid (suc n) (x ∷ xs) v = (v.0, taken_valid n xs v.1)

own_charged_by_keeps : {A : Type 0} (G : A → Type 0) (b : Bool) (n : ℕ) (m : Run A) (st : State) → Keeps G m → StateIsValid st → IsKept G (own_charged_by b n m st)
unfolding own_charged_by
own_charged_by_keeps G false n m st k v = v
own_charged_by_keeps G true n m st k v = leaving_keeps G (behind_helper st) (m (record st { words = st.words + n })) (λ q w. taken_valid (length st.objects) q.objects w) (k.keeps (record st { words = st.words + n }) v)

own_charged_keeps : {A : Type 0} {G : A → Type 0} (n : ℕ) {m : Run A} → Keeps G m → Keeps G (own_charged n m)
unfolding own_charged
own_charged_keeps {G = G} n {m = m} k = record { keeps = λ st v. own_charged_by_keeps G (nat_le (st.words + n) 1024) n m st k v }

-- ---- what helper functions alone call

refill_keeps : (ration : ℕ) → Keeps Any (refill ration)
unfolding refill
refill_keeps ration = record { keeps = λ st v. (tt, v) }

piece_keeps : (ration : ℕ) (c : Value) → IsValid c → Keeps IsValid (piece_put ration c)
unfolding piece_put
piece_keeps ration c a = bind_keeps (refill_keeps ration) (λ _ _. of_word_keeps c a (λ n _. bind_keeps (put_keeps n) (λ _ _. give_keeps Missing tt)))

abbrev known_actions : ℕ → List (List ℕ × Action)
known_actions ration =
    (unit_name, λ vs. paid false (give Missing)) ∷ (refill_name, λ vs. refill ration >>= λ _. give Missing) ∷ (piece_name, of_one (piece_put ration)) ∷ []

known_keep : (ration : ℕ) → EachKeeps (known_actions ration)
known_keep ration = (
  record { keeps = λ vs a. paid_keeps false (give_keeps Missing tt) },
  (
    record { keeps = λ vs a. bind_keeps (refill_keeps ration) (λ _ _. give_keeps Missing tt) },
    (of_one_keeps (piece_put ration) (λ c a. piece_keeps ration c a), tt),
  ),
)

known_or_keeps : (o : Option Action) (vs : List Value) (m : Run Value) → ((f : Action) → o ≡ Some f → ActionKeeps f) → AreValid vs → Keeps IsValid m → Keeps IsValid (known_or o vs m)
unfolding known_or
known_or_keeps None vs m h a k = k
known_or_keeps (Some f) vs m h a k = (h f refl).keeps vs a

-- ---- calls

either : (b : Bool) (f g : Option Definition) → IfSome (λ f. StmtIsLimited f.scope f.body) f → IfSome (λ f. StmtIsLimited f.scope f.body) g → IfSome (λ f. StmtIsLimited f.scope f.body) (cond b f g)
either true f g k l = k
either false f g k l = l

found_limited : (name : List ℕ) (fs : List Definition) → FunctionsAreLimited fs → IfSome (λ f. StmtIsLimited f.scope f.body) (find (λ f. bytes_eq name f.name) fs)
found_limited name [] l = tt
found_limited name (f ∷ fs) l = either (bytes_eq name f.name) (Some f) (find (λ g. bytes_eq name g.name) fs) l.0 (found_limited name fs l.1)

module _ (h : Helpers) (t : Text) (input : List ℕ) (bytes : AreBytes input) (limited : FunctionsAreLimited t.functions) (known : (other : List ℕ) → h.known other ≡ known_to_helpers h.ration other) where
  helper_runs_keep : (calls : List ℕ → List Value → Run Value) (deep : ℕ) (name : List ℕ) (o : Option Definition) (vs : List Value) → ((name : List ℕ) (vs : List Value) → AreValid vs → Keeps IsValid (calls name vs)) → IfSome (λ f. StmtIsLimited f.scope f.body) o → AreValid vs
      → Keeps IsValid (helper_runs h t input calls deep name o vs)
  unfolding helper_runs
  helper_runs_keep calls deep name None vs c l a = undefined_keeps OutsideObject
  helper_runs_keep calls deep name (Some f) vs c l a = own_charged_keeps (h.charge name) (runs_keep f [] deep (helper_world t input name calls) vs l (record { input = bytes; calls = c }) a)

  known_to : (name : List ℕ) (f : Action) → h.known name ≡ Some f → ActionKeeps f
  known_to name f e = found_keeps (known_actions h.ration) name f (known_keep h.ration) (subst (λ o. o ≡ Some f) (known name) e)

  calls_keep : (n : ℕ) (name : List ℕ) (vs : List Value) → AreValid vs → Keeps IsValid (helper_calls n h t input name vs)
  unfolding helper_calls
  calls_keep zero name vs a = stop_keeps
  calls_keep (suc n) name vs a =
      known_or_keeps (h.known name) vs (paid true (helper_runs h t input (helper_calls n h t input) n name (function_named t name) vs)) (λ f e. known_to name f e) a
      (paid_keeps true (helper_runs_keep (helper_calls n h t input) n name (function_named t name) vs (λ name vs a. calls_keep n name vs a) (found_limited name t.functions limited) a))

  guarded_keeps : {A : Type 0} (G : A → Type 0) (q r : Outcome A) → IsKept G q → IsKept G r → IsKept G (guarded q r)
  unfolding guarded
  guarded_keeps G (Gives a st) r k l = l
  guarded_keeps G (Ended st) r k l = l
  guarded_keeps G (Going st) r k l = l
  guarded_keeps G (Undefined act st) r k l = k

  use_keeps : (name : List ℕ) (action : Action) (vs : List Value) (st : State) → ActionKeeps action → AreValid vs → StateIsValid st → IsKept IsValid (helps_to h t input name action vs st)
  unfolding helps_to
  use_keeps name action vs st k a v =
      let deep : ℕ = use_depth h.ration st.left in
      let m : Run Value = helper_runs h t input (helper_calls deep h t input) deep name (function_named t name) vs in
      guarded_keeps IsValid (action vs st) (helped h.ration m st) ((k.keeps vs a).keeps st v)
      ((helped_keeps {G = IsValid} h.ration {m = m} (helper_runs_keep (helper_calls deep h t input) deep name (function_named t name) vs (λ name vs a. calls_keep deep name vs a) (found_limited name t.functions limited) a)).keeps st v)

pub uses_stay_valid : UsesStayValid
uses_stay_valid h t input name action vs st bytes limited known e a v = use_keeps h t input bytes limited known name action vs st (named_keeps name action e) a v
