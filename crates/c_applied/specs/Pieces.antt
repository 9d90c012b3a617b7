-- Pieces of code behind operands that stand ready.
use Rattle.std.specs.Prelude.{◌≡◌, ℕ, Bool, true, false, not, ◌||◌, List, [], ◌∷◌, ◌++◌, Option, Some, None, if◌then◌else◌}
use Rattle.eir_core.specs.declared.ops.Reg.{Reg}
use Rattle.eir_core.specs.declared.ops.Reg.TheVariants.{A, B}
use Rattle.eir_core.specs.declared.ops.Operand.{Operand}
use Rattle.eir_core.specs.declared.ops.Operand.TheVariants.{Reg as register}
use Rattle.eir_core.specs.declared.ops.Cond.{Cond}
use Rattle.eir_core.specs.declared.ops.Cond.TheVariants.{Eq}
use Rattle.eir_core.specs.declared.ops.Op.{Op}
use Rattle.eir_core.specs.declared.ops.Op.TheVariants.{Mov, Add, Sub, Load, Set, Getc, Jump}
use Rattle.c_syntax.specs.Plain as plain
use Rattle.c_syntax.specs.Plain.{CExpr, CExprs}
use Rattle.c_syntax.specs.declared.tree.UnOp.{UnOp}
use Rattle.c_syntax.specs.declared.tree.UnOp.TheVariants as unary
use Rattle.c_syntax.specs.declared.tree.BinOp.{BinOp}
use Rattle.c_syntax.specs.declared.tree.BinOp.TheVariants as binary
use Rattle.c_types.specs.Types.{CType}
use Rattle.c_operands.specs.declared.class.Class.{Class}
use Rattle.c_operands.specs.declared.class.Class.TheVariants.{Struct, Array, Function}
use Rattle.c_operands.specs.Classes.{pointer, array, unsigned}
use Rattle.c_lowered.specs.Operations.{Operands, constant, fetched_behind, moved_from, addend, lift, lift_operand, lifted_operand, comparable, comparison_of, comparison_code, save}

-- constants, strings and names: what has no code but that of a value that needs no evaluation
abbrev pub IsLeaf : CExpr → Type 0
IsLeaf (plain.Number at n unsigned) = Unit {0}
IsLeaf (plain.Str at text) = Unit {0}
IsLeaf (plain.Null at) = Unit {0}
IsLeaf (plain.Var at name) = Unit {0}
IsLeaf (plain.SizeTy at t) = Unit {0}
IsLeaf (plain.SizeOf at a) = Unit {0}
IsLeaf _ = ⊥

-- ---- places

-- whether the word at an address of a class is the value
abbrev pub is_fetched : Class → Bool
is_fetched Array = false
is_fetched Struct = false
is_fetched Function = false
is_fetched c = true

-- what stands at the address in A, by the class of its type
abbrev pub fetched_by : Class → List Op
fetched_by c = if is_fetched c then Load A (register A) ∷ [] else []

abbrev pub fetched_target : Option Class → List Op
fetched_target None = []
fetched_target (Some c) = fetched_by c

-- ---- operators on one side

-- an operator that takes the address of its operand
abbrev pub takes_place : UnOp → Bool
takes_place unary.Address = true
takes_place op = false

-- 1 where A is 0, else 0
abbrev pub denied : List Op
denied = Set Eq A (constant 0) ∷ []

-- 0 less what A has
abbrev pub negated : List Op
negated = Mov B (register A) ∷ Mov A (constant 0) ∷ Sub A (register B) ∷ []

-- what the others add behind the value of their operand, by its type
abbrev pub after_code : UnOp → CType → List Op
after_code unary.Deref t = fetched_behind t
after_code unary.Not t = denied
after_code unary.Minus t = negated
after_code op t = []

-- ---- operators on two sides

-- operands that are ready, without their code
abbrev pub bare : Reg → Operand → Operands
bare r v = record { code = []; first = r; second = v }

-- the truth of the left side that decides of both
abbrev pub junction_of : BinOp → Option Bool
junction_of binary.And = Some false
junction_of binary.Or = Some true
junction_of op = None

abbrev pub is_equality : BinOp → Bool
is_equality binary.Eq = true
is_equality binary.Ne = true
is_equality op = false

abbrev pub is_address : Class → Bool
is_address c = pointer c || array c

-- an order of ints, by the classes of both sides
abbrev pub signed_by : BinOp → Class → Class → Bool
signed_by op c d = if is_equality op then false else not (is_address c || unsigned c || unsigned d)

-- operands become comparable
abbrev pub lifts : Bool → Reg → Operand → List Op
lifts true r v = lift r ++ lift_operand v
lifts false r v = []

abbrev pub compared_operand : Bool → Operand → Operand
compared_operand true v = lifted_operand v
compared_operand false v = v

abbrev pub is_sum : BinOp → Bool
is_sum binary.Add = true
is_sum op = false

abbrev pub is_difference : BinOp → Bool
is_difference binary.Sub = true
is_difference op = false

-- an operator on operands that are ready
abbrev pub operated : BinOp → Bool → Reg → Operand → List Op
operated op signed r v =
    if is_sum op then Add A (addend r v) ∷ []
    else if is_difference op then Sub r v ∷ moved_from r
    else comparison_code (comparison_of op) (comparable signed (bare r v))

-- where the left side of a junction leads where it decides
abbrev pub aimed : (decides holds : Bool) → (target end : ℕ) → ℕ
aimed true true target end = target
aimed true false target end = end
aimed false true target end = end
aimed false false target end = target

-- 1, or 0 behind a jump
abbrev pub truth_tail : ℕ → List Op
truth_tail over = Mov A (constant 1) ∷ Jump (constant over) ∷ Mov A (constant 0) ∷ Jump (constant over) ∷ []

-- a byte of the input, or -1 at its end
abbrev pub getchar_code : List Op
getchar_code = Getc A ∷ Mov B (register A) ∷ Set Eq B (constant 0) ∷ Sub A (register B) ∷ []

-- ---- arguments

-- there are more than one
abbrev pub are_several : CExprs → Bool
are_several (plain.MoreExpr e (plain.MoreExpr f es)) = true
are_several es = false

-- a value waits in a frame's word, if it is to
abbrev pub waited : Bool → ℕ → List Op
waited true d = save d
waited false d = []
