-- Calls of helper functions on two words.
use Rattle.std.proofs.Common.{◌≡◌, ℕ, suc, ◌≤◌, List, [], ◌∷◌, None, Bool, true, false, refl}
use Rattle.std.specs.Prelude.{◌&&◌, nat_lt}
use Rattle.std.proofs.lemmas.Bool.{and_parts, ltb-true}
use Rattle.c_eval.specs.State.{Value, Word, Null, Point, Letter, Function, Missing}
use Rattle.c_eval.specs.Text.{Text}
use Rattle.c_eval.specs.Helpers.{Helpers, helper_calls}
use Rattle.c_apart.proofs.Apart.{Part, p_choose, p_stuck, p_computed}
use Rattle.c_apart.proofs.Splitting.{Split, itself, stuck_splits}
use Rattle.c_apart.proofs.Uses.{Computes, nested}

-- what a call does, where the words pass a test: it takes so many units and words, and gives a word
unfoldable pub p_on_words : (ok : ℕ → ℕ → Bool) → (units : ℕ → ℕ → ℕ) → (words : ℕ) → (f : ℕ → ℕ → ℕ) → List Value → Part Value
p_on_words ok units words f (Word x ∷ Word y ∷ []) = p_choose (ok x y) (p_computed (suc (units x y)) words (Word (f x y))) p_stuck
p_on_words ok units words f _ = p_stuck

pub record OnWords (h : Helpers) (t : Text) (input : List ℕ) (name : List ℕ) (ok : ℕ → ℕ → Bool) (units : ℕ → ℕ → ℕ) (most words : ℕ) (f : ℕ → ℕ → ℕ) : Type 0 where
  pub computes : (x y : ℕ) → ok x y ≡ true → Computes h t input name (units x y) words (Word x ∷ Word y ∷ []) (Word (f x y))
  pub bounded : (x y : ℕ) → units x y ≤ most

-- the test, and that a call comes to its end within the depth
abbrev pub within_depth : (ok : ℕ → ℕ → Bool) → (units : ℕ → ℕ → ℕ) → ℕ → ℕ → ℕ → Bool
within_depth ok units deep x y = ok x y && nat_lt (suc (units x y)) deep

module _ (h : Helpers) (t : Text) (input : List ℕ) (name : List ℕ) (ok : ℕ → ℕ → Bool) (units : ℕ → ℕ → ℕ) (most words : ℕ) (f : ℕ → ℕ → ℕ) (o : OnWords h t input name ok units most words f) (unknown : h.known name ≡ None) where
  tested : (deep n x y : ℕ) (b : Bool) → within_depth ok units deep x y ≡ b → Split n itself (p_choose b (p_computed (suc (units x y)) words (Word (f x y))) p_stuck) (helper_calls deep h t input name (Word x ∷ Word y ∷ []))
  unfolding p_choose
  tested deep n x y true e = let both = and_parts (ok x y) (nat_lt (suc (units x y)) deep) e in nested h t input name (units x y) words (Word x ∷ Word y ∷ []) (Word (f x y)) unknown (o.computes x y both.0) deep n (ltb-true (suc (units x y)) deep both.1)
  tested deep n x y false e = stuck_splits

  pub on_words_nested : (deep n : ℕ) (vs : List Value) → Split n itself (p_on_words (within_depth ok units deep) units words f vs) (helper_calls deep h t input name vs)
  unfolding p_on_words
  on_words_nested deep n (Word x ∷ Word y ∷ []) = tested deep n x y (within_depth ok units deep x y) refl
  on_words_nested deep n [] = stuck_splits
  on_words_nested deep n (Word x ∷ []) = stuck_splits
  on_words_nested deep n (Word x ∷ Word y ∷ z ∷ vs) = stuck_splits
  on_words_nested deep n (Word x ∷ Null ∷ vs) = stuck_splits
  on_words_nested deep n (Word x ∷ Point o k ∷ vs) = stuck_splits
  on_words_nested deep n (Word x ∷ Letter g i text k ∷ vs) = stuck_splits
  on_words_nested deep n (Word x ∷ Function g ∷ vs) = stuck_splits
  on_words_nested deep n (Word x ∷ Missing ∷ vs) = stuck_splits
  on_words_nested deep n (Null ∷ vs) = stuck_splits
  on_words_nested deep n (Point o k ∷ vs) = stuck_splits
  on_words_nested deep n (Letter g i text k ∷ vs) = stuck_splits
  on_words_nested deep n (Function g ∷ vs) = stuck_splits
  on_words_nested deep n (Missing ∷ vs) = stuck_splits
