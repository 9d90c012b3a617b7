-- Sums of trees that declare names.
use Rattle.std.specs.Prelude.{◌≡◌, ℕ, Some, slice_get, List, [], ◌∷◌, map}
use Rattle.c_syntax.specs.Plain.{CStmts, CParts, NoPart, MorePart, stmts, parts}
use Rattle.c_syntax.specs.View.{stmt_of, part_of}
use Rattle.c_syntax.specs.declared.tree.Stmts.{Stmts}
use Rattle.c_syntax.specs.declared.tree.Parts.{Parts}
use Rattle.c_syntax.specs.Plain.{CDecl}
use Rattle.c_types.specs.Scope.{Scope}
use Rattle.c_types.specs.Units as plain
use Rattle.c_types.specs.Census.{Tally, scope_behind_part}
use Rattle.c_types.specs.Known.{Grows}
use Rattle.c_types.specs.Table.{Table, known}
use Rattle.c_operands.specs.declared.declarations.Declarations.{Declarations}
use Rattle.c_declared.specs.Held.{Holds, IsAround}
use Rattle.c_signatures.specs.declared.signature.Signature.{Signature}
use Rattle.c_signatures.specs.Signatures.{IsSignature}
use Rattle.c_weights.specs.declared.sum.Sum.{Sum}
use Rattle.c_weights.specs.Sums.{Sums, AreCounted}

-- the statements of a list of the code
abbrev pub stmts_of : Stmts → CStmts
stmts_of all = stmts (map stmt_of all.items.items)

-- the parts of a `switch` of the code
abbrev pub parts_of : Parts → CParts
parts_of all = parts (map part_of all.items.items)

-- the scope behind the parts of a `switch`
abbrev pub parts_behind : Scope → CParts → Scope
parts_behind s NoPart = s
parts_behind s (MorePart p ps) = parts_behind (scope_behind_part s p) ps

-- the sums of a tree, the names of the innermost block being those of the scope behind it
pub record AreMoved (old new : Table) (d e : Declarations) (r : Sum) (n : Scope → Tally → ℕ) (behind : Scope → Scope) : Type 0 where
  pub counted : AreCounted old new d r n
  pub holds : (s : Scope) → Holds old d s → Holds new e (behind s)
  pub around : IsAround d e

-- the scope behind parameters
abbrev pub parameters_behind : Scope → List CDecl → Scope
parameters_behind s [] = s
parameters_behind s (p ∷ ps) = parameters_behind (plain.parameter_scope_or s (plain.parameter s p)) ps

-- there is a scope in which a signature is one of the definitions
abbrev pub HoldsWith : Table → Declarations → Signature → Type 0
HoldsWith table d f = (s : Scope) × (g : plain.Signature) × Holds table d s × IsSignature table s f g

-- a tag has a number
abbrev pub HasNumber : Table → List ℕ → Type 0
HasNumber table name = (n : ℕ) × (slice_get table.tags n ≡ Some name)
