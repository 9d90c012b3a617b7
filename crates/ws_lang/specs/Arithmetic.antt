-- For proofs only: what the arithmetic instructions make of two values.
use Rattle.std.specs.Prelude.{ℕ, cond, ℤ, ◌+ℤ◌, ◌-ℤ◌, ◌*ℤ◌}
use Rattle.std.specs.declared.result.Result.{Result}
use Rattle.std.specs.declared.result.Result.TheVariants.{Ok, Err}
use Rattle.ws_lang.specs.declared.arithmetic.Arithmetic.{Arithmetic}
use Rattle.ws_lang.specs.declared.arithmetic.Arithmetic.TheVariants as arithmetic
use Rattle.ws_lang.specs.Instruction.{Instruction, Add, Subtract, Multiply, Divide, Modulo}
use Rattle.mach_core.specs.Integer.{is_in_range, is_zero, floor_quotient, floor_remainder}

-- the value if it is in range, and else the fault
abbrev pub ranged : ℤ → Result ℤ ℕ
ranged z = cond (is_in_range z) (Ok z) (Err 2)

-- the value, or the fault
abbrev pub answer_of : Arithmetic → ℤ → ℤ → Result ℤ ℕ
answer_of arithmetic.Add x y = ranged (x +ℤ y)
answer_of arithmetic.Subtract x y = ranged (x -ℤ y)
answer_of arithmetic.Multiply x y = ranged (x *ℤ y)
answer_of arithmetic.Divide x y = cond (is_zero y) (Err 3) (ranged (floor_quotient x y))
answer_of arithmetic.Modulo x y = cond (is_zero y) (Err 3) (ranged (floor_remainder x y))

abbrev pub instruction_for : Arithmetic → Instruction
instruction_for arithmetic.Add = Add
instruction_for arithmetic.Subtract = Subtract
instruction_for arithmetic.Multiply = Multiply
instruction_for arithmetic.Divide = Divide
instruction_for arithmetic.Modulo = Modulo
