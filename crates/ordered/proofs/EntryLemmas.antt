-- The entries of a map, by the places of their keys.
use Rattle.std.proofs.Common.{◌≡◌, ℕ, zero, suc, ◌+◌, Bool, true, false, cond, List, [], ◌∷◌, ◌++◌, Option, Some, None, position, slice_set, get_or, refl, sym, ap, ◌∙◌, arith, if◌then◌else◌}
use Rattle.std.specs.Option.{option_map}
use Rattle.std.specs.Map.{lookup, keys_of}
use Rattle.ordered.specs.Order.{insert_entry}
use Rattle.ordered.proofs.PlaceLemmas.{first, place_is_first}

module _ {K V : Type 0} (p : K → Bool) where
  first_at : (es : List (K × V)) (n : ℕ) (e : K × V) → first p (keys_of es) ≡ Some n → e ≡ get_or es n e → lookup p es ≡ Some e.1
  first_at [] n e h g = cc
  first_at (x ∷ xs) n e h g = by (p x.0) (first p (keys_of xs)) (λ k e. first_at xs k e) h where
    by : (b : Bool) (o : Option ℕ) → ((k : ℕ) (e : K × V) → o ≡ Some k → e ≡ get_or xs k e → lookup p xs ≡ Some e.1)
        → cond b (Some 0) (option_map (λ k. 1 + k) o) ≡ Some n → cond b (Some x.1) (lookup p xs) ≡ Some e.1
    by true o f i =
        let here : 0 ≡ n = cc in
        let is : e ≡ x = g ∙ ap (λ m. get_or (x ∷ xs) m e) (sym here) in
        ap (λ y. Some y.1) (sym is)
    by false (Some k) f i =
        let up : 1 + k ≡ n = cc in
        let more : n ≡ suc k = omega arith in
        f k e refl (g ∙ ap (λ m. get_or (x ∷ xs) m e) more)
    by false None f i = cc

  pub value_at : (es : List (K × V)) (n : ℕ) (e : K × V) → position p (keys_of es) ≡ Some n → e ≡ get_or es n e → lookup p es ≡ Some e.1
  value_at es n e h g = first_at es n e (sym (place_is_first p (keys_of es)) ∙ h) g

  first_nowhere : (es : List (K × V)) → first p (keys_of es) ≡ None → lookup p es ≡ None
  first_nowhere [] h = refl
  first_nowhere (x ∷ xs) h = by (p x.0) (first p (keys_of xs)) (first_nowhere xs) h where
    by : (b : Bool) (o : Option ℕ) → (o ≡ None → lookup p xs ≡ None) → cond b (Some 0) (option_map (λ k. 1 + k) o) ≡ None → cond b (Some x.1) (lookup p xs) ≡ None
    by true o f i = cc
    by false (Some k) f i = cc
    by false None f i = f refl

  pub no_value : (es : List (K × V)) → position p (keys_of es) ≡ None → lookup p es ≡ None
  no_value es h = first_nowhere es (sym (place_is_first p (keys_of es)) ∙ h)

module _ {K V : Type 0} where
  -- a value that changes in place leaves the keys
  pub keys_set : (es : List (K × V)) (n : ℕ) (e : K × V) (v : V) → e ≡ get_or es n e → keys_of (slice_set es n (e.0, v)) ≡ keys_of es
  keys_set [] n e v g = refl
  keys_set (x ∷ xs) zero e v g = ap (λ y. y.0 ∷ keys_of xs) g
  keys_set (x ∷ xs) (suc n) e v g = ap (λ ks. x.0 ∷ ks) (keys_set xs n e v g)

  pub keys_push : (es : List (K × V)) (k : K) (v : V) → keys_of (es ++ (k, v) ∷ []) ≡ keys_of es ++ k ∷ []
  keys_push [] k v = refl
  keys_push (x ∷ xs) k v = ap (λ ks. x.0 ∷ ks) (keys_push xs k v)

module _ {K V : Type 0} (eq : K → K → Bool) (k : K) (v : V) where
  first_set : (es : List (K × V)) (n : ℕ) (e : K × V) → first (eq k) (keys_of es) ≡ Some n → e ≡ get_or es n e → slice_set es n (e.0, v) ≡ insert_entry eq es k v
  first_set [] n e h g = cc
  first_set (x ∷ xs) n e h g = by (eq k x.0) (first (eq k) (keys_of xs)) (λ m e. first_set xs m e) h where
    by : (b : Bool) (o : Option ℕ) → ((m : ℕ) (e : K × V) → o ≡ Some m → e ≡ get_or xs m e → slice_set xs m (e.0, v) ≡ insert_entry eq xs k v)
        → cond b (Some 0) (option_map (λ m. 1 + m) o) ≡ Some n → slice_set (x ∷ xs) n (e.0, v) ≡ (if b then (x.0, v) ∷ xs else x ∷ insert_entry eq xs k v)
    by true o f i =
        let here : n ≡ 0 = cc in
        let is : e ≡ x = g ∙ ap (λ m. get_or (x ∷ xs) m e) here in
        ap (λ m. slice_set (x ∷ xs) m (e.0, v)) here ∙ ap (λ y. (y.0, v) ∷ xs) is
    by false (Some m) f i =
        let up : 1 + m ≡ n = cc in
        let more : n ≡ suc m = omega arith in
        ap (λ j. slice_set (x ∷ xs) j (e.0, v)) more ∙ ap (λ es. x ∷ es) (f m e refl (g ∙ ap (λ j. get_or (x ∷ xs) j e) more))
    by false None f i = cc

  -- a key that is there takes the value in its place
  pub entry_set : (es : List (K × V)) (n : ℕ) (e : K × V) → position (eq k) (keys_of es) ≡ Some n → e ≡ get_or es n e → slice_set es n (e.0, v) ≡ insert_entry eq es k v
  entry_set es n e h g = first_set es n e (sym (place_is_first (eq k) (keys_of es)) ∙ h) g

  first_last : (es : List (K × V)) → first (eq k) (keys_of es) ≡ None → es ++ (k, v) ∷ [] ≡ insert_entry eq es k v
  first_last [] h = refl
  first_last (x ∷ xs) h = by (eq k x.0) (first (eq k) (keys_of xs)) (first_last xs) h where
    by : (b : Bool) (o : Option ℕ) → (o ≡ None → xs ++ (k, v) ∷ [] ≡ insert_entry eq xs k v)
        → cond b (Some 0) (option_map (λ m. 1 + m) o) ≡ None → x ∷ (xs ++ (k, v) ∷ []) ≡ (if b then (x.0, v) ∷ xs else x ∷ insert_entry eq xs k v)
    by true o f i = cc
    by false (Some m) f i = cc
    by false None f i = ap (λ es. x ∷ es) (f refl)

  -- a new key goes last
  pub entry_last : (es : List (K × V)) → position (eq k) (keys_of es) ≡ None → es ++ (k, v) ∷ [] ≡ insert_entry eq es k v
  entry_last es h = first_last es (sym (place_is_first (eq k) (keys_of es)) ∙ h)
