-- What is declared behind externals whose bodies aren't looked at.
use Rattle.std.specs.Prelude.{ℕ, Bool, List, Ok}
use Rattle.c_syntax.specs.Plain.{CTy, CDecl}
use Rattle.c_types.specs.Types.{CType, Members}
use Rattle.c_types.specs.Refusals.{after}
use Rattle.c_types.specs.Scope.{Scope}
use Rattle.c_types.specs.Declarations.{scope_or, with_tag}
use Rattle.c_types.specs.Units.{signature, type_of, with_function}
use Rattle.c_types.specs.Table.{Table}
use Rattle.c_operands.specs.declared.declarations.Declarations.{Declarations}
use Rattle.c_declared.specs.Held.{Holds}

-- behind a function's declaration, if its signature isn't refused
abbrev pub behind_function : Scope → List ℕ → ℕ → CTy → List CDecl → Bool → Scope
behind_function s name at result params defines = scope_or s (after (signature s at result params) (λ f. Ok (with_function s name (type_of f) defines)))

-- a tag is the last one that was declared, and its members are closed
abbrev pub IsClosedTag : Table → Declarations → List ℕ → Type 0
IsClosedTag table d name = (s : Scope) × (members : List (List ℕ × CType)) × (words : ℕ) × Holds table d (with_tag s name (Members members words))
