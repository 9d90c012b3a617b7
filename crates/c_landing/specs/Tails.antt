-- The code of operators, behind that of their operands.
use Rattle.std.specs.Prelude.{Bool, true, false, List, [], ◌∷◌, ◌++◌, Option, Some, None}
use Rattle.eir_core.specs.declared.ops.Reg.{Reg}
use Rattle.eir_core.specs.declared.ops.Reg.TheVariants.{A, B}
use Rattle.eir_core.specs.declared.ops.Operand.{Operand}
use Rattle.eir_core.specs.declared.ops.Operand.TheVariants.{Reg as register, Imm}
use Rattle.eir_core.specs.declared.ops.Cond.{Cond}
use Rattle.eir_core.specs.declared.ops.Op.{Op}
use Rattle.eir_core.specs.declared.ops.Op.TheVariants.{Add, Sub, Set}
use Rattle.c_syntax.specs.declared.tree.BinOp.{BinOp}
use Rattle.c_syntax.specs.declared.tree.BinOp.TheVariants as binary
use Rattle.c_eval.specs.State.{Value, Missing}
use Rattle.c_place.specs.Place.{Machine}
use Rattle.c_memory.specs.Lies.{Extent}
use Rattle.c_lowered.specs.Operations.{moved_from, addend, comparison_of, lift, lift_operand, lifted_operand}
use Rattle.c_landing.specs.Landing.{Setting, InA}
use Rattle.c_landing.specs.Few.{BinaryIsFew}

-- the operands that code has: the first in A and the second a constant or in B, or the first in B and the second in A
abbrev pub IsPair : Reg → Operand → Type 0
IsPair A (Imm k) = Unit {0}
IsPair A (register B) = Unit {0}
IsPair B (register A) = Unit {0}
IsPair _ _ = ⊥

abbrev pub sum_tail : Reg → Operand → List Op
sum_tail first second = Add A (addend first second) ∷ []

abbrev pub difference_tail : Reg → Operand → List Op
difference_tail first second = Sub first second ∷ moved_from first

-- words that are compared, lifted where they are ints
abbrev pub lift_tail : Bool → Reg → Operand → List Op
lift_tail false first second = []
lift_tail true first second = lift first ++ lift_operand second

abbrev pub compared_operand : Bool → Operand → Operand
compared_operand false second = second
compared_operand true second = lifted_operand second

abbrev pub compare_tail : Cond → Bool → Reg → Operand → List Op
compare_tail test signed first second = lift_tail signed first second ++ (Set test first (compared_operand signed second) ∷ moved_from first)

-- the code of an operator behind its operands
abbrev pub tail_of_comparison : Option Cond → Bool → Reg → Operand → List Op
tail_of_comparison (Some test) signed first second = compare_tail test signed first second
tail_of_comparison None signed first second = lift_tail signed first second

abbrev pub operator_tail : BinOp → Bool → Reg → Operand → List Op
operator_tail binary.Add signed first second = sum_tail first second
operator_tail binary.Sub signed first second = difference_tail first second
operator_tail op signed first second = tail_of_comparison (comparison_of op) signed first second

-- an operator that no helper function stands for, other than `&&` and `||`
abbrev pub IsOperator : BinOp → Type 0
IsOperator binary.And = ⊥
IsOperator binary.Or = ⊥
IsOperator op = BinaryIsFew op

-- a value that a function gave
abbrev pub IsGiven : Value → Type 0
IsGiven Missing = ⊥
IsGiven v = Unit {0}

-- the value stands in A, and a function gave it
abbrev pub GivenInA : Setting → Value → List Extent → Machine → Type 0
GivenInA S v bs m = InA S v bs m × IsGiven v
