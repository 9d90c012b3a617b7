-- Helper functions of products, quotients and what is left are the operators for which they stand.
use Rattle.std.specs.Prelude.{◌≡◌, ℕ, ◌^◌, ◌≤◌, true, false, List}
use Rattle.c_syntax.specs.declared.tree.BinOp.TheVariants as binary
use Rattle.c_types.specs.Types.{Int, Unsigned}
use Rattle.c_eval.specs.State.{Value, State}
use Rattle.c_eval.specs.Text.{Text}
use Rattle.c_eval.specs.Helpers.{Helpers, helps_to}
use Rattle.c_helpers.specs.Functions.{product, unsigned_quotient, int_quotient, unsigned_remainder, int_remainder}
use Rattle.c_helpers.specs.Meanings.{Action, operator}
use Rattle.c_products.specs.Found.{Stands, Knows, AreWords}

-- at 512 units for a use and more, a call of the function does what the action does
abbrev pub IsAction : Helpers → Text → List ℕ → Action → Type 0
IsAction h t name action = (input : List ℕ) (vs : List Value) (st : State) → AreWords vs → helps_to h t input name action vs st ≡ action vs st

abbrev pub ProductsAreComputed : Type 0
ProductsAreComputed = (h : Helpers) (t : Text) → 2 ^ 9 ≤ h.ration → Stands h t Int product → IsAction h t product.name (operator binary.Mul false)

abbrev pub UnsignedQuotientsAreComputed : Type 0
UnsignedQuotientsAreComputed = (h : Helpers) (t : Text) → 2 ^ 9 ≤ h.ration → Stands h t Unsigned unsigned_quotient → IsAction h t unsigned_quotient.name (operator binary.Div true)

abbrev pub IntQuotientsAreComputed : Type 0
IntQuotientsAreComputed =
    (h : Helpers) (t : Text) → 2 ^ 9 ≤ h.ration → Stands h t Unsigned unsigned_quotient → (own : Stands h t Int int_quotient) → Knows own.names Unsigned unsigned_quotient
    → IsAction h t int_quotient.name (operator binary.Div false)

abbrev pub UnsignedRemaindersAreComputed : Type 0
UnsignedRemaindersAreComputed =
    (h : Helpers) (t : Text) → 2 ^ 9 ≤ h.ration → Stands h t Int product → Stands h t Unsigned unsigned_quotient
    → (own : Stands h t Unsigned unsigned_remainder) → Knows own.names Unsigned unsigned_quotient → Knows own.names Int product
    → IsAction h t unsigned_remainder.name (operator binary.Mod true)

abbrev pub IntRemaindersAreComputed : Type 0
IntRemaindersAreComputed =
    (h : Helpers) (t : Text) → 2 ^ 9 ≤ h.ration → Stands h t Int product → Stands h t Unsigned unsigned_quotient
    → (d : Stands h t Int int_quotient) → Knows d.names Unsigned unsigned_quotient
    → (own : Stands h t Int int_remainder) → Knows own.names Int int_quotient → Knows own.names Int product
    → IsAction h t int_remainder.name (operator binary.Mod false)
