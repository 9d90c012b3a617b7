-- For proofs only: an instruction with the place that its label marks for the label.
use Rattle.std.specs.Prelude.{ℕ, List}
use Rattle.ws_lang.specs.declared.resolved.Resolved.{Resolved}
use Rattle.ws_lang.specs.declared.resolved.Resolved.TheVariants as kind
use Rattle.ws_lang.specs.Instruction.{Instruction, Push, Duplicate, Swap, Discard, Copy, Slide, Add, Subtract, Multiply, Divide, Modulo, Store, Retrieve, Mark, Call, Jump, JumpIfZero, JumpIfNegative, Return, End, WriteCharacter, WriteNumber, ReadCharacter, ReadNumber}
use Rattle.ws_lang.specs.Labels.{target_of}

-- an instruction that goes to this place, if it goes to one
abbrev pub resolved : ℕ → Instruction → Resolved
resolved target (Push n) = kind.Push n
resolved target Duplicate = kind.Duplicate
resolved target Swap = kind.Swap
resolved target Discard = kind.Discard
resolved target (Copy n) = kind.Copy n
resolved target (Slide n) = kind.Slide n
resolved target Add = kind.Add
resolved target Subtract = kind.Subtract
resolved target Multiply = kind.Multiply
resolved target Divide = kind.Divide
resolved target Modulo = kind.Modulo
resolved target Store = kind.Store
resolved target Retrieve = kind.Retrieve
resolved target (Mark label) = kind.Mark
resolved target (Call label) = kind.Call target
resolved target (Jump label) = kind.Jump target
resolved target (JumpIfZero label) = kind.JumpIfZero target
resolved target (JumpIfNegative label) = kind.JumpIfNegative target
resolved target Return = kind.Return
resolved target End = kind.End
resolved target WriteCharacter = kind.WriteCharacter
resolved target WriteNumber = kind.WriteNumber
resolved target ReadCharacter = kind.ReadCharacter
resolved target ReadNumber = kind.ReadNumber

-- an instruction of a program
abbrev pub resolved_in : List Instruction → Instruction → Resolved
resolved_in code instruction = resolved (target_of code instruction) instruction
