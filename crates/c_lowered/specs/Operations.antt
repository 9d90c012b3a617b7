-- Short pieces of code. A value is left in A; B has a first operand or a second one, C an address, BP the base of the call's frame.
use Rattle.std.specs.Prelude.{ℕ, zero, suc, ◌+◌, ◌%◌, ◌^◌, Bool, true, false, ◌||◌, not, List, [], ◌∷◌, ◌++◌, Option, Some, None, if◌then◌else◌}
use Rattle.std.proofs.Common.{lit<}
use Rattle.std.proofs.Math.Nat.{mod-lt}
use Rattle.word24.specs.declared.word.Word.{Word}
use Rattle.word24.specs.Word.{number_of}
use Rattle.eir_core.specs.declared.ops.Reg.{Reg}
use Rattle.eir_core.specs.declared.ops.Reg.TheVariants.{A, B, C, BP}
use Rattle.eir_core.specs.declared.ops.Operand.{Operand}
use Rattle.eir_core.specs.declared.ops.Operand.TheVariants.{Reg as register, Imm}
use Rattle.eir_core.specs.declared.ops.Cond.{Cond}
use Rattle.eir_core.specs.declared.ops.Cond.TheVariants.{Eq, Ne, Lt, Gt, Le, Ge}
use Rattle.eir_core.specs.declared.ops.Op.{Op}
use Rattle.eir_core.specs.declared.ops.Op.TheVariants.{Mov, Add, Sub, Load, Store, Set, Jump, JumpIf}
use Rattle.c_syntax.specs.declared.tree.BinOp.{BinOp}
use Rattle.c_syntax.specs.declared.tree.BinOp.TheVariants as binary
use Rattle.c_types.specs.Types.{CType, Struct, Array, Function, Pointer, is_pointer, is_unsigned}
use Rattle.c_lowered.specs.Locations.{Location, Fixed, Framed, Direct, Exactly, Address, Stored, is_steady}

abbrev pub wrapped : ℕ → Word
wrapped number = record { value = number % 2 ^ 24; in_range = mod-lt number (lit< tt) }

abbrev pub constant : ℕ → Operand
constant number = Imm (wrapped number)

-- ---- values and places

-- a value that needs no evaluation comes into a register
abbrev pub load_to : Reg → Direct → List Op
load_to r (Exactly n) = Mov r (constant n) ∷ []
load_to r (Address k) = Mov r (register BP) ∷ Add r (constant k) ∷ []
load_to r (Stored (Fixed a)) = Load r (constant a) ∷ []
load_to r (Stored (Framed k)) = Mov r (register BP) ∷ Add r (constant k) ∷ Load r (register r) ∷ []

abbrev pub loaded : Option Direct → List Op
loaded None = []
loaded (Some v) = load_to A v

-- a value that needs no evaluation, else by code
abbrev pub direct_or : Option Direct → List Op → List Op
direct_or None ops = ops
direct_or (Some v) ops = load_to A v

-- A goes to a place
abbrev pub store_to : Location → List Op
store_to (Fixed a) = Store A (constant a) ∷ []
store_to (Framed k) = Mov C (register BP) ∷ Add C (constant k) ∷ Store A (register C) ∷ []

-- the address of a place comes into C
abbrev pub point_to : Location → List Op
point_to (Fixed a) = Mov C (constant a) ∷ []
point_to (Framed k) = Mov C (register BP) ∷ Add C (constant k) ∷ []

-- A waits in the frame's word d; what waits there comes into a register
abbrev pub save : ℕ → List Op
save d = store_to (Framed d)

abbrev pub restore : Reg → ℕ → List Op
restore r d = load_to r (Stored (Framed d))

-- what stands at the address in A, by its type: an array is its address, a struct has no value, and a function pointer gives itself
abbrev pub fetched : CType → List Op
fetched (Array t n) = []
fetched (Struct tag) = []
fetched (Function t ts) = []
fetched t = Load A (register A) ∷ []

-- what the pointer in A points to
abbrev pub fetched_behind : CType → List Op
fetched_behind (Pointer t) = fetched t
fetched_behind t = []

-- the address in A goes on by some words
abbrev pub moved_on : ℕ → List Op
moved_on zero = []
moved_on (suc n) = Add A (constant (suc n)) ∷ []

-- ---- two operands

-- the code that evaluates both, and where they are then
pub record Operands : Type 0 where
  pub code : List Op
  pub first : Reg
  pub second : Operand

-- as an operand, once it is ready
abbrev pub ready : Direct → List Op
ready (Exactly n) = []
ready v = load_to B v

abbrev pub operand_of : Direct → Operand
operand_of (Exactly n) = constant n
operand_of v = register B

-- the first in A, the second as it is
abbrev pub in_order : List Op → Direct → Operands
in_order a v = record { code = a ++ ready v; first = A; second = operand_of v }

-- the first, which needs no evaluation, behind the second
abbrev pub turned : Direct → List Op → Operands
turned v b = record { code = b ++ load_to B v; first = B; second = register A }

-- the first waits in the frame's word d
abbrev pub waiting : ℕ → List Op → List Op → Operands
waiting d a b = record { code = a ++ (save d ++ (b ++ restore B d)); first = B; second = register A }

-- the first is read behind the second only where that changes nothing; b has the second's code, by the frame's first free word
abbrev pub operands : ℕ → (quiet : Bool) → Option Direct → Option Direct → List Op → (ℕ → List Op) → Operands
operands d quiet first (Some v) a b = in_order a v
operands d quiet None None a b = waiting d a (b (suc d))
operands d quiet (Some v) None a b = if quiet || is_steady v then turned v (b d) else waiting d a (b (suc d))

-- ---- operators

-- what a register has comes into A
abbrev pub moved_from : Reg → List Op
moved_from A = []
moved_from r = Mov A (register r) ∷ []

-- what is to be added to A
abbrev pub addend : Reg → Operand → Operand
addend A v = v
addend r v = register r

abbrev pub sum_code : Operands → List Op
sum_code p = p.code ++ Add A (addend p.first p.second) ∷ []

abbrev pub difference_code : Operands → List Op
difference_code p = p.code ++ (Sub p.first p.second ∷ moved_from p.first)

-- a comparison of words; nothing of the other operators
abbrev pub comparison_of : BinOp → Option Cond
comparison_of binary.Eq = Some Eq
comparison_of binary.Ne = Some Ne
comparison_of binary.Lt = Some Lt
comparison_of binary.Gt = Some Gt
comparison_of binary.Le = Some Le
comparison_of binary.Ge = Some Ge
comparison_of op = None

abbrev pub opposite : Cond → Cond
opposite Eq = Ne
opposite Ne = Eq
opposite Lt = Ge
opposite Gt = Le
opposite Le = Gt
opposite Ge = Lt

-- an order of ints, which have a sign
abbrev pub is_signed : BinOp → CType → CType → Bool
is_signed binary.Eq t u = false
is_signed binary.Ne t u = false
is_signed op t u = not (is_pointer t || is_unsigned t || is_unsigned u)

-- words are in the order of ints once 2^23 is added to both
abbrev pub lift : Reg → List Op
lift r = Add r (constant (2 ^ 23)) ∷ []

abbrev pub lift_operand : Operand → List Op
lift_operand (register r) = lift r
lift_operand (Imm w) = []

abbrev pub lifted_operand : Operand → Operand
lifted_operand (register r) = register r
lifted_operand (Imm w) = constant (number_of w + 2 ^ 23)

-- operands that can be compared as they are
abbrev pub comparable : (signed : Bool) → Operands → Operands
comparable false p = p
comparable true p = record { code = p.code ++ (lift p.first ++ lift_operand p.second); first = p.first; second = lifted_operand p.second }

-- 1 or 0
abbrev pub compared : Cond → Operands → List Op
compared test p = p.code ++ (Set test p.first p.second ∷ moved_from p.first)

-- a jump where the comparison holds, or where it doesn't
abbrev pub jump_where : Bool → ℕ → Cond → Operands → List Op
jump_where holds target test p = p.code ++ JumpIf (if holds then test else opposite test) (constant target) p.first p.second ∷ []

abbrev pub comparison_code : Option Cond → Operands → List Op
comparison_code (Some test) p = compared test p
comparison_code None p = p.code

-- an operator on two words or pointers; those for which helper functions stand have no code
abbrev pub operator_code : BinOp → (signed : Bool) → Operands → List Op
operator_code binary.Add signed p = sum_code p
operator_code binary.Sub signed p = difference_code p
operator_code op signed p = comparison_code (comparison_of op) (comparable signed p)

-- a jump where A is 0, or where it isn't
abbrev pub jump_if_zero : Bool → ℕ → List Op
jump_if_zero is_zero target = JumpIf (if is_zero then Eq else Ne) (constant target) A (constant 0) ∷ []

-- ---- truth

-- 1 or 0, from code that jumps where the truth is 0; it begins in block k and has so many jumps
abbrev pub truth_word : ℕ → ℕ → (ℕ → List Op) → List Op
truth_word k jumps test = test (k + jumps + 1) ++ Mov A (constant 1) ∷ Jump (constant (k + jumps + 2)) ∷ Mov A (constant 0) ∷ Jump (constant (k + jumps + 2)) ∷ []

-- `&&` and `||`: the left side decides where its truth is this; the code ends at a block
abbrev pub junction : (decides holds : Bool) → (target end : ℕ) → (Bool → ℕ → List Op) → (Bool → ℕ → List Op) → List Op
junction true true target end a b = a true target ++ b true target
junction true false target end a b = a true end ++ b false target
junction false true target end a b = a false end ++ b true target
junction false false target end a b = a false target ++ b false target

-- ---- updates of the word at the address in C

abbrev pub step_by : BinOp → Reg → Operand → Op
step_by binary.Sub r v = Sub r v
step_by op r v = Add r v

-- by a value that needs no evaluation
abbrev pub update_by : BinOp → Direct → List Op
update_by op v = Load A (register C) ∷ (ready v ++ step_by op A (operand_of v) ∷ Store A (register C) ∷ [])

-- by the value in A
abbrev pub update_by_value : BinOp → List Op
update_by_value op = Load B (register C) ∷ step_by op B (register A) ∷ Mov A (register B) ∷ Store A (register C) ∷ []

-- ---- calls

-- the callee's frame begins at the frame's word d, where the block to return to comes; behind the jump that block begins
abbrev pub call_at : ℕ → ℕ → ℕ → List Op
call_at d back entry = Add BP (constant d) ∷ Mov A (constant back) ∷ Store A (register BP) ∷ Jump (constant entry) ∷ Sub BP (constant d) ∷ []

-- the same through a function pointer that waits in that word
abbrev pub call_through_at : ℕ → ℕ → List Op
call_through_at d back = Add BP (constant d) ∷ Load B (register BP) ∷ Mov A (constant back) ∷ Store A (register BP) ∷ Jump (register B) ∷ Sub BP (constant d) ∷ []

abbrev pub return_code : List Op
return_code = Load B (register BP) ∷ Jump (register B) ∷ []
