-- The longest of some lists.
use Rattle.std.proofs.Common.{◌≡◌, ℕ, suc, ◌+◌, ◌<◌, ◌≤◌, ◌⊎◌, inl, inr, List, [], ◌∷◌, length, map, get_or, Some, slice_get, option_map, refl, sym, ap, ◌∙◌, arith}
use Rattle.std.proofs.lemmas.Option.{slice_get-map, slice_get-get_or, slice_get_within}
use Rattle.piet_lane.specs.declared.command.Command.{Command}

module _ {A : Type 0} (f : A → List Command) where
  pub got : (xs : List A) (i : ℕ) (x : A) → i < length xs → x ≡ get_or xs i x → slice_get (map f xs) i ≡ Some (f x)
  got xs i x h is = slice_get-map f xs i ∙ ap (option_map f) (slice_get-get_or xs i x h ∙ ap (λ (z : A). Some z) (sym is))

  lt_of : (k n : ℕ) → k < n + 1 → (k < n) ⊎ (k ≡ n)
  lt_of k n h = grind arith

  same_lane : (a b : List Command) → Some a ≡ Some b → a ≡ b
  same_lane a b e = cc

  pub reach_more : (xs : List A) (i : ℕ) (x : A) (old new : ℕ) → i < length xs → x ≡ get_or xs i x → ((k : ℕ) (lane : List Command) → k < i → slice_get (map f xs) k ≡ Some lane → length lane ≤ old) → old ≤ new → length (f x) ≤ new
      → (k : ℕ) (lane : List Command) → k < i + 1 → slice_get (map f xs) k ≡ Some lane → length lane ≤ new
  reach_more xs i x old new h is before le size k lane less e = go (lt_of k i less)
    where
      go : (k < i) ⊎ (k ≡ i) → length lane ≤ new
      go (inl l) = let short = before k lane l e in omega (arith, short, le)
      go (inr same) =
          let one : lane ≡ f x = same_lane lane (f x) (sym e ∙ (ap (slice_get (map f xs)) same ∙ got xs i x h is)) in
          let long = ap length one in
          omega (arith, long, size)

  size_map : (xs : List A) → length (map f xs) ≡ length xs
  size_map [] = refl
  size_map (x ∷ xs) = ap suc (size_map xs)

  pub below_all : (xs : List A) (k : ℕ) (lane : List Command) → slice_get (map f xs) k ≡ Some lane → k < length xs
  below_all xs k lane e = let there = slice_get_within (map f xs) k lane e in let same = size_map xs in omega (arith, there, same)
