-- Code that is added, the literals in it, and the block in which it ends.
use Rattle.std.specs.Prelude.{◌≡◌, ℕ, List, [], length, Option, Some, None}
use Rattle.eir_core.specs.declared.ops.Reg.TheVariants.{A}
use Rattle.eir_core.specs.declared.ops.Op.{Op}
use Rattle.c_syntax.specs.Plain.{CExpr}
use Rattle.c_types.specs.Scope.{Scope}
use Rattle.c_eval.specs.LiteralsIn.{literals_in}
use Rattle.c_types.specs.Known.{Grows}
use Rattle.c_types.specs.Table.{known}
use Rattle.c_lowered.specs.Locations.{Direct}
use Rattle.c_lowered.specs.Operations.{load_to}
use Rattle.c_counted.specs.Numbers.{IsNumber}
use Rattle.c_addressing.specs.declared.here.Output.{Output}
use Rattle.c_addressing.specs.Here.{Emits}

-- how many literals stand in an expression
abbrev pub literal_count : Scope → CExpr → ℕ
literal_count s e = length (literals_in s e)

-- the table of types only grew
pub record Keeps (old new : Output) : Type 0 where
  pub grows : Grows (known old.types) (known new.types)
  pub tags : new.types.tags ≡ old.types.tags

-- code was added in which so many literals stand, and it ends in a block
pub record Leads (old new : Output) (code : List Op) (literals told end : ℕ) : Type 0 where
  pub emits : Emits old new code literals
  pub block : IsNumber told end

-- a value that needs no evaluation has code, and nothing was added for another
abbrev pub MayLead : Output → Output → Option ℕ → Option Direct → ℕ → ℕ → Type 0
MayLead old new (Some told) (Some v) literals block = Leads old new (load_to A v) literals told block
MayLead old new None None literals block = Emits old new [] 0
MayLead old new _ _ literals block = ⊥
