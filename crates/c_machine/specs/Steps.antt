-- Instructions that neither take nor write, and the others.
use Rattle.std.specs.Prelude.{◌≡◌, ℕ, Bool, true, false, Result, Ok, Err, cond}
use Rattle.mach_core.specs.declared.machine.Moved.{Moved}
use Rattle.mach_core.specs.Moved.{is_took}
use Rattle.c_plain.specs.Machine.{Machine, Step}
use Rattle.c_plain.specs.Program.{Program}
use Rattle.c_plain.specs.Rule.{next_step, wants_in}
use Rattle.c_plain.specs.Machine.{At}
use Rattle.c_plain.specs.declared.instruction.Instruction.{Instruction}
use Rattle.c_plain.specs.declared.instruction.Instruction.TheVariants as code
use Rattle.c_parts.specs.declared.halt.Halt.{Halt}
use Rattle.c_parts.specs.declared.halt.Halt.TheVariants as halt
use Rattle.c_machine.specs.declared.exchange.Exchange.{Exchange}
use Rattle.c_machine.specs.declared.exchange.Exchange.TheVariants.{BuiltIn, Put, Decimal, Unsigned, Character, Digits, Text}

abbrev pub is_quiet : Instruction → Bool
is_quiet (code.BuiltIn f a) = false
is_quiet (code.Put byte) = false
is_quiet code.Decimal = false
is_quiet code.Unsigned = false
is_quiet code.Character = false
is_quiet code.Digits = false
is_quiet code.Text = false
is_quiet i = true

-- one that jumps, calls, returns, ends the run, or enters or leaves a block or a loop
abbrev pub is_control : Instruction → Bool
is_control (code.JumpUnless n) = true
is_control (code.Jump n) = true
is_control (code.Back n) = true
is_control (code.JumpAt w n) = true
is_control code.Pay = true
is_control (code.Call f a) = true
is_control (code.CallThrough a) = true
is_control code.Return = true
is_control (code.Enter lengths) = true
is_control code.Leave = true
is_control (code.Loop again past) = true
is_control (code.Switch past) = true
is_control code.Done = true
is_control code.Break = true
is_control code.Continue = true
is_control code.End = true
is_control i = false

abbrev pub instruction_of : Exchange → Instruction
instruction_of (BuiltIn f a) = code.BuiltIn f a
instruction_of (Put byte) = code.Put byte
instruction_of Decimal = code.Decimal
instruction_of Unsigned = code.Unsigned
instruction_of Character = code.Character
instruction_of Digits = code.Digits
instruction_of Text = code.Text

-- the next step, fed a byte where it takes one
abbrev pub step_fed : Program → ℕ → Machine → Step
step_fed p byte m = next_step p (cond (wants_in p (At m)) byte 0) m

-- where a step takes a byte, it was taken, or memory is wanted for it
abbrev pub TakesAs : Result Moved Halt → Bool → Type 0
TakesAs (Ok moved) takes = is_took moved ≡ takes
TakesAs (Err halt.Ended) takes = takes ≡ false
TakesAs (Err halt.Exhausted) takes = takes ≡ false
TakesAs (Err (halt.Act act)) takes = takes ≡ false
TakesAs (Err halt.Memory) takes = Unit {0}
