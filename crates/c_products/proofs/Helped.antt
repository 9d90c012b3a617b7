-- A use of a helper function on two words is its operator.
use Rattle.std.proofs.Common.{◌≡◌, ℕ, ◌^◌, ◌<◌, ◌≤◌, List, [], ◌∷◌, Bool, true, false, refl, arith}
use Rattle.c_syntax.specs.declared.tree.BinOp.{BinOp}
use Rattle.c_eval.specs.State.{Value, Word, Null, Point, Letter, Function, Missing, Act, OtherKind, State, Gives, Undefined}
use Rattle.c_eval.specs.Run.{undefined}
use Rattle.c_eval.specs.Operators.{of_word, on_words}
use Rattle.c_eval.specs.Text.{Text}
use Rattle.c_eval.specs.Helpers.{Helpers, helps_to}
use Rattle.c_helpers.specs.Meanings.{of_two, counting, operator}
use Rattle.c_apart.proofs.Uses.{use_undefined, use_computes}
use Rattle.c_products.specs.Found.{AreWords}
use Rattle.c_products.proofs.Nested.{OnWords}

module _ (h : Helpers) (t : Text) (input : List ℕ) (name : List ℕ) (ok : ℕ → ℕ → Bool) (units : ℕ → ℕ → ℕ) (most words : ℕ) (f : ℕ → ℕ → ℕ) (o : OnWords h t input name ok units most words f) (enough : most ≤ h.ration) (small : words ≤ 1024)
    (op : BinOp) (unsigned : Bool)
    (gives : (x y : ℕ) → x < 2 ^ 24 → y < 2 ^ 24 → ok x y ≡ true → (st : State) → on_words op (counting unsigned) (counting unsigned) (Word x) (Word y) st ≡ Gives (Word (f x y)) st)
    (fails : (x y : ℕ) → x < 2 ^ 24 → y < 2 ^ 24 → ok x y ≡ false → (st : State) → (act : Act) × (on_words op (counting unsigned) (counting unsigned) (Word x) (Word y) st ≡ Undefined act st)) where
  on_two_words : (x y : ℕ) (st : State) → x < 2 ^ 24 → y < 2 ^ 24 → (b : Bool) → ok x y ≡ b → helps_to h t input name (operator op unsigned) (Word x ∷ Word y ∷ []) st ≡ operator op unsigned (Word x ∷ Word y ∷ []) st
  unfolding of_two
  on_two_words x y st sx sy true e = let le : units x y ≤ most = o.bounded x y in use_computes h t input name (units x y) words (Word x ∷ Word y ∷ []) (Word (f x y)) (o.computes x y e) (omega (arith, le, enough)) small (operator op unsigned) st (gives x y sx sy e st)
  on_two_words x y st sx sy false e = let r = fails x y sx sy e st in use_undefined h t input name (Word x ∷ Word y ∷ []) (operator op unsigned) st st r.0 r.1

  no_words : (vs : List Value) (st : State) → operator op unsigned vs st ≡ Undefined OtherKind st → helps_to h t input name (operator op unsigned) vs st ≡ operator op unsigned vs st
  no_words vs st e = use_undefined h t input name vs (operator op unsigned) st st OtherKind e

  pub helped_words : (vs : List Value) (st : State) → AreWords vs → helps_to h t input name (operator op unsigned) vs st ≡ operator op unsigned vs st
  unfolding of_two on_words of_word undefined
  helped_words [] st w = no_words [] st refl
  helped_words (x ∷ []) st w = no_words (x ∷ []) st refl
  helped_words (x ∷ y ∷ z ∷ vs) st w = no_words (x ∷ y ∷ z ∷ vs) st refl
  helped_words (Word x ∷ Word y ∷ []) st (sx, (sy, w)) = on_two_words x y st sx sy (ok x y) refl
  helped_words (Word x ∷ Null ∷ []) st w = no_words (Word x ∷ Null ∷ []) st refl
  helped_words (Word x ∷ Point i k ∷ []) st w = no_words (Word x ∷ Point i k ∷ []) st refl
  helped_words (Word x ∷ Letter g i text k ∷ []) st w = no_words (Word x ∷ Letter g i text k ∷ []) st refl
  helped_words (Word x ∷ Function g ∷ []) st w = no_words (Word x ∷ Function g ∷ []) st refl
  helped_words (Word x ∷ Missing ∷ []) st w = no_words (Word x ∷ Missing ∷ []) st refl
  helped_words (Null ∷ y ∷ []) st w = no_words (Null ∷ y ∷ []) st refl
  helped_words (Point i k ∷ y ∷ []) st w = no_words (Point i k ∷ y ∷ []) st refl
  helped_words (Letter g i text k ∷ y ∷ []) st w = no_words (Letter g i text k ∷ y ∷ []) st refl
  helped_words (Function g ∷ y ∷ []) st w = no_words (Function g ∷ y ∷ []) st refl
  helped_words (Missing ∷ y ∷ []) st w = no_words (Missing ∷ y ∷ []) st refl
