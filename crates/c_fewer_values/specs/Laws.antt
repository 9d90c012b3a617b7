-- Trees that stand for operators do what the operators do.
use Rattle.std.specs.Prelude.{◌≡◌, ℕ, ◌<◌, ◌^◌, true, false, ◌&&◌, ◌||◌, List, [], ◌∷◌, Some, codes}
use Rattle.c_syntax.specs.Plain.{CExpr, Index}
use Rattle.c_syntax.specs.declared.tree.UnOp.TheVariants as unary
use Rattle.c_syntax.specs.declared.tree.StepOp.{StepOp}
use Rattle.c_syntax.specs.declared.tree.BinOp.{BinOp}
use Rattle.c_syntax.specs.declared.tree.BinOp.TheVariants as binary
use Rattle.c_types.specs.Types.{CType, Pointer, Tags, is_arithmetic, is_pointer, is_unsigned, is_object_pointer, is_void}
use Rattle.c_types.specs.Expressions.{names_function}
use Rattle.c_types.specs.Room.{is_wide_pointer}
use Rattle.c_eval.specs.State.{State}
use Rattle.c_eval.specs.Run.{◌>>=◌}
use Rattle.c_eval.specs.Operators.{used, element_words, combined, value_at, on_word}
use Rattle.c_eval.specs.Environment.{Environment, type_in, value_type_in, past}
use Rattle.c_eval.specs.Eval.{World, assignment, element, stepped, value_of, place_of}
use Rattle.c_valid.specs.Valid.{IsValid, StateIsValid, IsKept}
use Rattle.c_helpers.specs.Fewer.{sign_of, counts_unsigned, operator_tree, assignment_tree, moved_place, words_by, sum_tree, element_tree, wide_step, helper_call, as_type}
use Rattle.c_fewer_values.specs.Helping.{EachHelps}

-- what an operator takes: not two pointers to add, and elements that are smaller than the least int below zero counts
pub record Takes (tags : Tags) (op : BinOp) (t u : CType) : Type 0 where
  pub added : op ≡ binary.Add → (is_pointer t && is_pointer u) ≡ false
  pub left : element_words tags t < 2 ^ 23
  pub right : element_words tags u < 2 ^ 23

-- the tree of a binary operator on operands of two types
abbrev pub tree_of : Tags → ℕ → BinOp → CType → CType → CType → CExpr → CExpr → CExpr
tree_of tags at op result t u a b = operator_tree tags at (sign_of op (counts_unsigned op t u)) op result t u a b

-- from each valid state the expression leads to one, and what it gives is valid
abbrev pub LeadsOn : World → Environment → CExpr → Type 0
LeadsOn w here e = (st : State) → StateIsValid st → IsKept IsValid (value_of e w here st)

-- so does its place
abbrev pub PlaceLeadsOn : World → Environment → CExpr → Type 0
PlaceLeadsOn w here e = (st : State) → StateIsValid st → IsKept IsValid (place_of e w here st)

-- in valid states the tree does what the operator does with what the operands give
abbrev pub OperatorsAreEvaluated : Type 0
OperatorsAreEvaluated =
    (w : World) (here : Environment) (at : ℕ) (op : BinOp) (result t u : CType) (a b : CExpr) (st : State)
    → EachHelps w here.scope (tree_of here.scope.tags at op result t u a b) → Takes here.scope.tags op t u → value_type_in here.scope a ≡ t → value_type_in here.scope b ≡ u
    → is_void (type_in here.scope (tree_of here.scope.tags at op result t u a b)) ≡ false → LeadsOn w here a → LeadsOn w (past a here) b → StateIsValid st
    → value_of (tree_of here.scope.tags at op result t u a b) w here st ≡ combined here.scope.tags op t u (value_of a w here >>= used) (value_of b w (past a here) >>= used) st

-- in valid states the tree of an assignment to a number with an operator that has a function does what the assignment does: its place is evaluated once, before the right side
abbrev pub NumbersAreAssigned : Type 0
NumbersAreAssigned =
    (w : World) (here : Environment) (at : ℕ) (op : BinOp) (t u : CType) (sign : List ℕ) (a b : CExpr) (st : State)
    → EachHelps w here.scope (assignment_tree here.scope.tags at (Some sign) op t u a b) → sign_of op (counts_unsigned op t u) ≡ Some sign → is_arithmetic t ≡ true → w.inner ≡ false → names_function here.scope a ≡ false
    → is_void (type_in here.scope (assignment_tree here.scope.tags at (Some sign) op t u a b)) ≡ false → PlaceLeadsOn w here a → LeadsOn w (past a here) b → StateIsValid st
    → value_of (assignment_tree here.scope.tags at (Some sign) op t u a b) w here st ≡ assignment w here.scope.tags (Some op) t u (place_of a w here) (value_of b w (past a here) >>= used) st

-- a sum or a difference
abbrev pub IsSum : BinOp → Type 0
IsSum binary.Add = Unit {0}
IsSum binary.Sub = Unit {0}
IsSum _ = ⊥

-- in valid states the tree that moves a pointer to wide elements by a number of them does what the assignment does
abbrev pub PointersAreAssigned : Type 0
PointersAreAssigned =
    (w : World) (here : Environment) (at : ℕ) (op : BinOp) (t u : CType) (a b : CExpr) (st : State)
    → EachHelps w here.scope (moved_place at t (is_unsigned u) a b (words_by op here.scope.tags t)) → IsSum op → is_wide_pointer here.scope.tags t ≡ true → is_object_pointer t ≡ true → is_pointer u ≡ false → element_words here.scope.tags t < 2 ^ 23
    → w.inner ≡ false → names_function here.scope a ≡ false → is_void (type_in here.scope (moved_place at t (is_unsigned u) a b (words_by op here.scope.tags t))) ≡ false → PlaceLeadsOn w here a → LeadsOn w (past a here) b → StateIsValid st
    → value_of (moved_place at t (is_unsigned u) a b (words_by op here.scope.tags t)) w here st ≡ assignment w here.scope.tags (Some op) t u (place_of a w here) (value_of b w (past a here) >>= used) st

-- an element is the place that the sum points to
abbrev pub ElementsArePlaces : Type 0
ElementsArePlaces =
    (w : World) (here : Environment) (at : ℕ) (t u : CType) (a b : CExpr) (st : State)
    → EachHelps w here.scope (element_tree here.scope.tags at t u a b) → Takes here.scope.tags binary.Add t u → value_type_in here.scope a ≡ t → value_type_in here.scope b ≡ u
    → ((is_wide_pointer here.scope.tags t || is_wide_pointer here.scope.tags u) ≡ true → is_void (type_in here.scope (sum_tree here.scope.tags at t u a b)) ≡ false) → LeadsOn w here a → LeadsOn w (past a here) b → StateIsValid st
    → place_of (element_tree here.scope.tags at t u a b) w here st ≡ element w here.scope.tags t u (value_of a w here >>= used) (value_of b w (past a here) >>= used) st

-- and is worth what a place of its type is worth there
abbrev pub ElementsAreEvaluated : Type 0
ElementsAreEvaluated =
    (w : World) (here : Environment) (at : ℕ) (result t u : CType) (a b : CExpr) (st : State)
    → EachHelps w here.scope (element_tree here.scope.tags at t u a b) → Takes here.scope.tags binary.Add t u → value_type_in here.scope a ≡ t → value_type_in here.scope b ≡ u
    → ((is_wide_pointer here.scope.tags t || is_wide_pointer here.scope.tags u) ≡ true
    → (is_void (type_in here.scope (sum_tree here.scope.tags at t u a b)) ≡ false) × (value_type_in here.scope (sum_tree here.scope.tags at t u a b) ≡ Pointer result) × (is_object_pointer (Pointer result) ≡ true))
    → ((is_wide_pointer here.scope.tags t || is_wide_pointer here.scope.tags u) ≡ false → type_in here.scope (Index at a b) ≡ result) → LeadsOn w here a → LeadsOn w (past a here) b → StateIsValid st
    → value_of (element_tree here.scope.tags at t u a b) w here st ≡ (element w here.scope.tags t u (value_of a w here >>= used) (value_of b w (past a here) >>= used) >>= value_at w.inner result) st

-- in valid states the tree of a step of a pointer to wide elements does what the step does
abbrev pub WideStepsAreTaken : Type 0
WideStepsAreTaken =
    (w : World) (here : Environment) (at : ℕ) (op : StepOp) (t : CType) (a : CExpr) (st : State)
    → EachHelps w here.scope (wide_step here.scope.tags at op t a) → is_wide_pointer here.scope.tags t ≡ true → is_object_pointer t ≡ true → element_words here.scope.tags t < 2 ^ 23
    → w.inner ≡ false → names_function here.scope a ≡ false → is_void (type_in here.scope (wide_step here.scope.tags at op t a)) ≡ false → PlaceLeadsOn w here a → StateIsValid st
    → value_of (wide_step here.scope.tags at op t a) w here st ≡ stepped w here.scope.tags op t (place_of a w here) st

-- the tree of a complement does what `~` does
abbrev pub ComplementsAreEvaluated : Type 0
ComplementsAreEvaluated =
    (w : World) (here : Environment) (at : ℕ) (result : CType) (a : CExpr) (st : State)
    → EachHelps w here.scope (as_type at result (helper_call at (codes "~") (a ∷ []))) → is_void (type_in here.scope (as_type at result (helper_call at (codes "~") (a ∷ [])))) ≡ false → LeadsOn w here a → StateIsValid st
    → value_of (as_type at result (helper_call at (codes "~") (a ∷ []))) w here st ≡ (value_of a w here >>= used >>= on_word unary.Invert) st
