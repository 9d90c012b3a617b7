-- Parts of the code of expressions.
use Rattle.std.specs.Prelude.{ℕ, suc, ◌+◌, Bool, false, List, [], ◌∷◌, ◌++◌, Option, Some, None}
use Rattle.eir_core.specs.declared.ops.Reg.TheVariants.{A, B, C}
use Rattle.eir_core.specs.declared.ops.Operand.TheVariants.{Reg as register}
use Rattle.eir_core.specs.declared.ops.Op.{Op}
use Rattle.eir_core.specs.declared.ops.Op.TheVariants.{Mov, Store}
use Rattle.c_syntax.specs.Plain as plain
use Rattle.c_syntax.specs.Plain.{CExpr, CExprs}
use Rattle.c_syntax.specs.declared.tree.BinOp.{BinOp}
use Rattle.c_eval.specs.Environment.{Environment, past}
use Rattle.c_lowered.specs.Locations.{Linking, Direct, direct, is_quiet}
use Rattle.c_lowered.specs.Operations.{Operands, operands, in_order, waiting, load_to, save, restore, update_by, update_by_value}
use Rattle.c_lowered.specs.Counts.{expr_jumps, truth_jumps}
use Rattle.c_lowered.specs.Expressions.{value_code, place_code, truth_code}
use Rattle.c_applied.specs.Pieces.{waited}

-- the address of the place that an expression is
abbrev pub address_code : CExpr → Linking → Environment → ℕ → ℕ → List Op
address_code e w here k d = place_code e w here k d (value_code e w here k d)

-- a jump where the truth of an expression is this
abbrev pub test_code : CExpr → Linking → Environment → ℕ → ℕ → Bool → ℕ → List Op
test_code e w here k d holds target = truth_code e w here k d (value_code e w here k d) holds target

-- the right side of an operator, by the frame's first free word
abbrev pub right_code : CExpr → CExpr → Linking → Environment → ℕ → ℕ → List Op
right_code a b w here k d = value_code b w (past a here) (k + expr_jumps a) d

-- both sides of an operator, as operands
abbrev pub sides : CExpr → CExpr → Linking → Environment → ℕ → ℕ → Operands
sides a b w here k d = operands d (is_quiet b) (direct a w here) (direct b w (past a here)) (value_code a w here k d) (right_code a b w here k)

-- the second operand behind the first, which has this code
abbrev pub second_side : ℕ → Option Direct → List Op → (ℕ → List Op) → Operands
second_side d v a b = operands d false None v a b

-- a value goes to the address in A
abbrev pub stored_code : ℕ → Option Direct → (ℕ → List Op) → List Op
stored_code d (Some v) b = Mov B (register A) ∷ load_to A v ++ Store A (register B) ∷ []
stored_code d None b = save d ++ (b (suc d) ++ (restore B d ++ Store A (register B) ∷ []))

-- the word at the address in A is updated
abbrev pub changed_code : BinOp → ℕ → Option Direct → (ℕ → List Op) → List Op
changed_code op d (Some v) b = Mov C (register A) ∷ update_by op v
changed_code op d None b = save d ++ (b (suc d) ++ (restore C d ++ update_by_value op))

-- arguments in the frame's words from one on, each of which waits there if it is to
abbrev pub given_code : Bool → CExprs → Linking → Environment → ℕ → ℕ → List Op
given_code waits plain.NoExpr w here k d = []
given_code waits (plain.MoreExpr e es) w here k d = value_code e w here k d ++ (waited waits d ++ given_code waits es w (past e here) (k + expr_jumps e) (suc d))
