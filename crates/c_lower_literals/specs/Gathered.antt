-- Texts of string literals, gathered one behind the other.
use Rattle.std.specs.Prelude.{◌≡◌, ℕ, false, List, ◌++◌}
use denote.Ref.{Bor}
use Rattle.c_syntax.specs.Plain.{CDecl}
use Rattle.c_types.specs.Scope.{Scope}
use Rattle.c_types.specs.Declarations.{declared, scope_or}
use Rattle.c_eval.specs.LiteralsIn.{first_literals}
use Rattle.c_types.specs.Known.{Grows}
use Rattle.c_types.specs.Table.{Table, known, texts}
use Rattle.c_operands.specs.declared.declarations.Declarations.{Declarations}
use Rattle.c_declared.specs.Held.{Holds, IsAround}

-- these texts stand behind others
pub record Adds (old new : List (Bor (List ℕ))) (literals : List (List ℕ)) : Type 0 where
  pub behind : texts new ≡ texts old ++ literals

-- those of a tree, the names of the innermost block being those of the scope behind it
pub record Gathers (before after : Table) (d e : Declarations) (old new : List (Bor (List ℕ))) (literals : Scope → List (List ℕ)) (behind : Scope → Scope) : Type 0 where
  pub grows : Grows (known before) (known after)
  pub tags : after.tags ≡ before.tags
  pub adds : (s : Scope) → Holds before d s → Adds old new (literals s)
  pub holds : (s : Scope) → Holds before d s → Holds after e (behind s)
  pub around : IsAround d e

-- a first value knows its own object
abbrev pub local_literals : Scope → CDecl → List (List ℕ)
local_literals s d = first_literals (scope_or s (declared s false d)) d.first
