-- Code that is emitted, whatever is counted of string literals.
use Rattle.std.specs.Prelude.{◌≡◌, List, ◌++◌, length}
use Rattle.c_code.specs.Code as code
use Rattle.c_plain.specs.declared.instruction.Instruction.{Instruction}
use Rattle.c_emitted.specs.declared.emitter.Emitter.{Emitter}
use Rattle.c_emitted.specs.Tables.{Extends, AreMeant}
use Rattle.c_emitted.specs.Emits.{tables_of, StaysIn}

-- an emitter has emitted this code of C more
pub record Adds (a b : Emitter) (is : List code.Instruction) : Type 0 where
  pub code : List Instruction
  pub behind : b.code ≡ a.code ++ code
  pub count : length code ≡ length is
  pub meant : AreMeant (tables_of b) is code
  pub tables : Extends (tables_of a) (tables_of b)
  pub stays : StaysIn a b
