-- Code that is emitted apart from the code so far, and put behind it later.
use Rattle.std.specs.Prelude.{◌≡◌, ℕ, ◌+◌, List, ◌++◌, length}
use Rattle.c_code.specs.Code as code
use Rattle.c_plain.specs.declared.instruction.Instruction.{Instruction}
use Rattle.c_emitted.specs.declared.emitter.Emitter.{Emitter}
use Rattle.c_emitted.specs.Tables.{Extends, AreMeant}
use Rattle.c_emitted.specs.Emits.{tables_of, StaysIn, KeepsTables}

-- an emitter is as it was, with this code
pub record HasCode (a b : Emitter) (js : List Instruction) : Type 0 where
  pub code : b.code ≡ js
  pub keeps : KeepsTables a b

-- instructions stand behind the code so far
pub record Appends (a b : Emitter) (js : List Instruction) : Type 0 where
  pub code : b.code ≡ a.code ++ js
  pub keeps : KeepsTables a b

-- these instructions were emitted apart from the code so far: they are this code of C, with these string literals
pub record IsAside (a b : Emitter) (js : List Instruction) (is : List code.Instruction) (literals : List (List ℕ)) : Type 0 where
  pub code : b.code ≡ a.code
  pub count : length js ≡ length is
  pub meant : AreMeant (tables_of b) is js
  pub tables : Extends (tables_of a) (tables_of b)
  pub stays : StaysIn a b
  pub before : b.before ≡ a.before + length literals
