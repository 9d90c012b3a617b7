-- Operands that are as good as others: of the same type, places where those are, and zeros where those are.
use Rattle.std.specs.Prelude.{◌≡◌, ℕ, true, List, [], ◌∷◌, Option, Ok}
use Rattle.c_syntax.specs.declared.tree.UnOp.{UnOp}
use Rattle.c_syntax.specs.declared.tree.BinOp.{BinOp}
use Rattle.c_types.specs.Types.{CType, Tags, is_arithmetic}
use Rattle.c_types.specs.Refusals.{Judged}
use Rattle.c_types.specs.Operands.{Operand, is_place, is_designator, is_zero, unary_operand, step_operand, binary_operand, assign_operand, choice_operand, comma_operand, cast_operand, index_operand, function_call}

-- b is as good as a, and only a number is a literal 0
pub record IsAsGood (a b : Operand) : Type 0 where
  pub ty : a.ty ≡ b.ty
  pub place : is_place a.sort ≡ is_place b.sort
  pub designator : is_designator a.sort ≡ is_designator b.sort
  pub zero : is_zero a.sort ≡ true → is_zero b.sort ≡ true
  pub number : is_zero b.sort ≡ true → is_arithmetic b.ty ≡ true

-- one after the other
abbrev pub AreAsGood : List Operand → List Operand → Type 0
AreAsGood [] [] = Unit {0}
AreAsGood (a ∷ xs) (b ∷ ys) = IsAsGood a b × AreAsGood xs ys
AreAsGood _ _ = ⊥

-- where the one isn't refused, the other isn't, and is as good
abbrev pub JudgedAsGood : Judged Operand → Judged Operand → Type 0
JudgedAsGood r q = (a : Operand) → r ≡ Ok a → (b : Operand) × (q ≡ Ok b) × IsAsGood a b

-- an operator takes operands that are as good as those that it takes, at another place of the text too
pub record RulesTakeAsGood : Type 0 where
  pub unary : (tags : Tags) (at pos : ℕ) (op : UnOp) (a b : Operand) → IsAsGood a b → JudgedAsGood (unary_operand tags at op a) (unary_operand tags pos op b)
  pub step : (tags : Tags) (at pos : ℕ) (a b : Operand) → IsAsGood a b → JudgedAsGood (step_operand tags at a) (step_operand tags pos b)
  pub binary : (tags : Tags) (at pos : ℕ) (op : BinOp) (a b c d : Operand) → IsAsGood a b → IsAsGood c d → JudgedAsGood (binary_operand tags at op a c) (binary_operand tags pos op b d)
  pub assign : (tags : Tags) (at pos : ℕ) (op : Option BinOp) (a b c d : Operand) → IsAsGood a b → IsAsGood c d → JudgedAsGood (assign_operand tags at op a c) (assign_operand tags pos op b d)
  pub choice : (at pos : ℕ) (a b c d e f : Operand) → IsAsGood a b → IsAsGood c d → IsAsGood e f → JudgedAsGood (choice_operand at a c e) (choice_operand pos b d f)
  pub comma : (at pos : ℕ) (a b c d : Operand) → IsAsGood c d → JudgedAsGood (comma_operand at a c) (comma_operand pos b d)
  pub cast : (at pos : ℕ) (t : CType) (a b : Operand) → IsAsGood a b → JudgedAsGood (cast_operand at t a) (cast_operand pos t b)
  pub index : (tags : Tags) (at pos : ℕ) (a b c d : Operand) → IsAsGood a b → IsAsGood c d → JudgedAsGood (index_operand tags at a c) (index_operand tags pos b d)
  pub call : (at pos : ℕ) (t : CType) (xs ys : List Operand) → AreAsGood xs ys → JudgedAsGood (function_call at true t xs) (function_call pos true t ys)
