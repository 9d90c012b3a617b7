-- Helper functions that do what the operators do, for the names of a tree.
use Rattle.std.specs.Prelude.{◌≡◌, ℕ, ◌<◌, ◌^◌, Bool, false, List, [], ◌∷◌, Some, codes}
use Rattle.std.specs.Str.{bytes_eq}
use Rattle.c_syntax.specs.Plain.{CExpr}
use Rattle.c_types.specs.Types.{CType}
use Rattle.c_types.specs.Scope.{Scope, Routine, entity_of}
use Rattle.c_eval.specs.State.{Value, Word, State}
use Rattle.c_eval.specs.Eval.{World}
use Rattle.c_valid.specs.Valid.{AreValid, StateIsValid}
use Rattle.c_alike.specs.Alike.{EachName}
use Rattle.c_helpers.specs.Meanings.{Action, of_three, elements_between, stands_for}
use Rattle.c_fewer_types.specs.Stands.{helper_type}

abbrev pub difference_name : List ℕ
difference_name = codes "pointer - pointer"

-- a name that is a helper function's stands for it, and in valid states a call of it with valid values does what the operator does; a difference of pointers does where an element has a number of words that counts as above zero
pub record Helps (w : World) (s : Scope) (name : List ℕ) : Type 0 where
  pub known : (t : CType) → helper_type name ≡ Some t → (begun : Bool) × (entity_of s name ≡ Some (Routine t begun))
  pub does : (action : Action) → stands_for name ≡ Some action → bytes_eq name difference_name ≡ false → (vs : List Value) (st : State) → AreValid vs → StateIsValid st → w.calls name vs st ≡ action vs st
  pub differs : name ≡ difference_name → (p q : Value) (words : ℕ) (st : State) → AreValid (p ∷ q ∷ []) → 0 < words → words < 2 ^ 23 → StateIsValid st
      → w.calls name (p ∷ q ∷ Word words ∷ []) st ≡ of_three elements_between (p ∷ q ∷ Word words ∷ []) st

-- each helper function that a tree names does so
abbrev pub EachHelps : World → Scope → CExpr → Type 0
EachHelps w s e = EachName (Helps w s) e
