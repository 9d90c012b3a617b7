-- Forms of expressions, as the definitions have them.
use Rattle.std.specs.Prelude.{ℕ, Result}
use Rattle.c_types.specs.declared.fault.TypeFault.{TypeFault}
use Rattle.c_types.specs.Types.{CType, Tags}
use Rattle.c_types.specs.Refusals.{Judged}
use Rattle.c_types.specs.Operands as plain
use Rattle.c_types.specs.Operands.{value_type}
use Rattle.c_types.specs.Table.{Table, HasType}
use Rattle.c_operands.specs.declared.operand.Operand.{Operand}
use Rattle.c_operands.specs.Seen.{IsOperand, IsJudged}
use Rattle.c_forms.specs.declared.form.One.{One}
use Rattle.c_forms.specs.declared.form.One.TheVariants.{Unary, Step, SizeOf, Member, Arrow}
use Rattle.c_forms.specs.declared.form.Two.{Two}
use Rattle.c_forms.specs.declared.form.Two.TheVariants.{Binary, Assign, Comma, Index}

-- what an expression of a form is, by its part
abbrev pub one_operand : Tags → ℕ → One → plain.Operand → Judged plain.Operand
one_operand tags at (Unary op) x = plain.unary_operand tags at op x
one_operand tags at Step x = plain.step_operand tags at x
one_operand tags at SizeOf x = plain.size_operand tags at x.ty
one_operand tags at (Member name) x = plain.member_operand tags at name.now x.ty
one_operand tags at (Arrow name) x = plain.arrow_operand tags at name.now (value_type x)

-- by its two parts
abbrev pub two_operand : Tags → ℕ → Two → plain.Operand → plain.Operand → Judged plain.Operand
two_operand tags at (Binary op) x y = plain.binary_operand tags at op x y
two_operand tags at (Assign op) x y = plain.assign_operand tags at op x y
two_operand tags at Comma x y = plain.comma_operand at x y
two_operand tags at Index x y = plain.index_operand tags at x y

-- the code's judgement is that of an operand
abbrev pub IsSomeOperand : Table → Result Operand TypeFault → Type 0
IsSomeOperand table j = (p : Judged plain.Operand) × IsJudged (IsOperand table) j p

-- that of a type
abbrev pub IsSomeType : Table → Result ℕ TypeFault → Type 0
IsSomeType table j = (p : Judged CType) × IsJudged (HasType table) j p

-- two operands of the code are two of the definitions
abbrev pub IsPair : Table → Operand × Operand → plain.Operand × plain.Operand → Type 0
IsPair table p q = IsOperand table p.0 q.0 × IsOperand table p.1 q.1
