-- For proofs only: what the fields of a program stand for.
use Rattle.std.specs.Prelude.{◌≡◌, ◌≤◌, ◌^◌, List, length, map}
use Rattle.ws_lang.specs.declared.program.WsProgram.TheInside.{Inside}
use Rattle.ws_lang.specs.OpInstruction.{instruction_of}
use Rattle.ws_lang.specs.Instruction.{Instruction, IsWhitespace}
use Rattle.ws_lang.specs.Resolved.{resolved_in}

-- the instructions that are kept
abbrev pub code_of : Inside → List Instruction
code_of a = map instruction_of a.ops.items

-- they are a program, and they are kept as a machine executes them
pub record IsInside (a : Inside) : Type 0 where
  pub sound : IsWhitespace (code_of a)
  pub steps : a.steps.items ≡ map (resolved_in (code_of a)) (code_of a)
  pub few : length a.ops.items ≤ 2 ^ 29
