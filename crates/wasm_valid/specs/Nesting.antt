-- The code of a function as its blocks nest.
use Rattle.std.specs.Prelude.{Bool, List, [], ◌∷◌, ◌++◌}
use Rattle.wasm_bin.specs.declared.module.Instr.{Instr}
use Rattle.wasm_bin.specs.declared.module.Instr.TheVariants as instr

-- a sequence: its first instruction, with the code inside it where it opens a block, and the others; a block gives a value or none
pub data Code : Type 0 where
  Nothing : Code
  Single : Instr → Code → Code
  InBlock : Bool → Code → Code → Code
  InLoop : Bool → Code → Code → Code
  InIf : Bool → Code → Code → Code
  InIfElse : Bool → Code → Code → Code → Code

-- the flat list of the instructions
abbrev pub spelled : Code → List Instr
spelled Nothing = []
spelled (Single i others) = i ∷ spelled others
spelled (InBlock result body others) = instr.Block result ∷ (spelled body ++ instr.End ∷ spelled others)
spelled (InLoop result body others) = instr.Loop result ∷ (spelled body ++ instr.End ∷ spelled others)
spelled (InIf result body others) = instr.If result ∷ (spelled body ++ instr.End ∷ spelled others)
spelled (InIfElse result body other others) = instr.If result ∷ (spelled body ++ instr.Else ∷ (spelled other ++ instr.End ∷ spelled others))
