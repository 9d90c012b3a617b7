-- Parts of the code of statements.
use Rattle.std.specs.Prelude.{◌≡◌, ℕ, ◌+◌, Bool, true, false, List, [], ◌∷◌, Some, None}
use Rattle.eir_core.specs.declared.ops.Reg.TheVariants.{A}
use Rattle.eir_core.specs.declared.ops.Cond.TheVariants.{Eq}
use Rattle.eir_core.specs.declared.ops.Op.{Op}
use Rattle.eir_core.specs.declared.ops.Op.TheVariants.{JumpIf}
use Rattle.c_syntax.specs.Plain as plain
use Rattle.c_syntax.specs.Plain.{CPart, CParts}
use Rattle.c_types.specs.Scope.{Scope}
use Rattle.c_types.specs.Census.{scope_behind_part}
use Rattle.c_eval.specs.Environment.{Environment, constant_in, behind_part}
use Rattle.c_lowered.specs.Operations.{constant}
use Rattle.c_addressing.specs.declared.here.Output.{Output}
use Rattle.c_addressing.specs.Here.{Emits}

-- code was made aside, in which so many literals stand
pub record IsAside (old new : Output) (ops code : List Op) (literals : ℕ) : Type 0 where
  pub is : ops ≡ code
  pub passed : Emits old new [] literals

-- the comparison with the word of a label that stands in a block
abbrev pub label_code : CPart → Scope → ℕ → List Op
label_code (plain.Label at (Some e)) s k = JumpIf Eq (constant (k + 1)) A (constant (constant_in s e)) ∷ []
label_code p s k = []

abbrev pub is_default : CPart → Bool
is_default (plain.Label at None) = true
is_default p = false

-- the scope behind parts, and the place
abbrev pub scope_behind_parts : Scope → CParts → Scope
scope_behind_parts s plain.NoPart = s
scope_behind_parts s (plain.MorePart p ps) = scope_behind_parts (scope_behind_part s p) ps

abbrev pub behind_parts : CParts → Environment → Environment
behind_parts plain.NoPart here = here
behind_parts (plain.MorePart p ps) here = behind_parts ps (behind_part p here)
