-- Helper functions of pointers are the operators for which they stand.
use Rattle.std.specs.Prelude.{◌≡◌, ℕ, ◌^◌, ◌<◌, ◌≤◌, Bool, List, [], ◌∷◌}
use Rattle.c_types.specs.Types.{Void, Int, Unsigned, Pointer}
use Rattle.c_eval.specs.State.{Value, Word, State}
use Rattle.c_eval.specs.Text.{Text}
use Rattle.c_eval.specs.Helpers.{Helpers, helps_to}
use Rattle.c_helpers.specs.Functions.{product, unsigned_quotient, int_quotient, pointer_step, pointer_difference}
use Rattle.c_helpers.specs.Meanings.{Action, of_two, of_three, pointer_sum as sum, swapped_sum as swapped, moving_sum as moving, pointer_step as step, elements_between}
use Rattle.c_products.specs.Found.{Stands, Knows}
use Rattle.c_valid.specs.Valid.{AreValid, StateIsValid}
use Rattle.c_products.specs.MovesFound.{Has, KnowsOf, sum_function, sum_parameters, swapped_function, swapped_parameters, moving_function, step_parameters, difference_parameters}

-- in valid states, at 512 units for a use and more, a call of the function with valid values does what the action does
abbrev pub IsMove : Helpers → Text → List ℕ → Action → Type 0
IsMove h t name action = (input : List ℕ) (vs : List Value) (st : State) → AreValid vs → StateIsValid st → helps_to h t input name action vs st ≡ action vs st

-- a text has the function that moves pointers by a number, which knows that of products
abbrev pub HasSum : Helpers → Text → Bool → Type 0
HasSum h t unsigned = (own : Has h t (Pointer Void) (sum_parameters unsigned) (sum_function unsigned)) × Knows own.names Int product

abbrev pub SumsAreComputed : Type 0
SumsAreComputed = (h : Helpers) (t : Text) (unsigned : Bool) → 2 ^ 9 ≤ h.ration → Stands h t Int product → HasSum h t unsigned → IsMove h t (sum_function unsigned).name (of_three (sum unsigned))

abbrev pub SwappedSumsAreComputed : Type 0
SwappedSumsAreComputed = (h : Helpers) (t : Text) (unsigned : Bool) → 2 ^ 9 ≤ h.ration → Stands h t Int product → HasSum h t unsigned
    → (own : Has h t (Pointer Void) (swapped_parameters unsigned) (swapped_function unsigned)) → KnowsOf own.names (Pointer Void) (sum_parameters unsigned) (sum_function unsigned)
    → IsMove h t (swapped_function unsigned).name (of_three (swapped unsigned))

abbrev pub PointersAreMoved : Type 0
PointersAreMoved = (h : Helpers) (t : Text) (unsigned : Bool) → 2 ^ 9 ≤ h.ration → Stands h t Int product → HasSum h t unsigned
    → (own : Has h t (Pointer Void) (sum_parameters unsigned) (moving_function unsigned)) → KnowsOf own.names (Pointer Void) (sum_parameters unsigned) (sum_function unsigned)
    → IsMove h t (moving_function unsigned).name (of_three (moving unsigned))

abbrev pub StepsAreTaken : Type 0
StepsAreTaken = (h : Helpers) (t : Text) → Has h t (Pointer Void) step_parameters pointer_step → IsMove h t pointer_step.name (of_two step)

-- an element has at least one word, and fewer than the least int below zero counts
abbrev pub DifferencesAreComputed : Type 0
DifferencesAreComputed = (h : Helpers) (t : Text) → 2 ^ 9 ≤ h.ration → Stands h t Unsigned unsigned_quotient → (d : Stands h t Int int_quotient) → Knows d.names Unsigned unsigned_quotient
    → (own : Has h t Int difference_parameters pointer_difference) → Knows own.names Int int_quotient
    → (input : List ℕ) (p q : Value) (words : ℕ) (st : State) → AreValid (p ∷ q ∷ []) → 0 < words → words < 2 ^ 23 → StateIsValid st
    → helps_to h t input pointer_difference.name (of_three elements_between) (p ∷ q ∷ Word words ∷ []) st ≡ of_three elements_between (p ∷ q ∷ Word words ∷ []) st
