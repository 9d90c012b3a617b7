-- Functions that got their code.
use Rattle.std.specs.Prelude.{◌≡◌, ℕ, ◌+◌, List, ◌++◌, length, take, map, Option}
use Rattle.c_syntax.specs.Plain.{CDecl, CStmt}
use Rattle.c_types.specs.Scope.{Scope}
use Rattle.c_types.specs.Units as plain
use Rattle.c_types.specs.Units.{body_scope}
use Rattle.c_eval.specs.Environment.{Environment}
use Rattle.c_eval.specs.LiteralsIn.{stmt_literals}
use Rattle.c_eval.specs.Text.{Definition}
use Rattle.c_declared.specs.Held.{Holds}
use Rattle.c_signatures.specs.declared.signature.Signature as rust
use Rattle.c_signatures.specs.Signatures.{IsSignature}
use Rattle.c_fitting.specs.Blocks.{DeclaresInBlocks}
use Rattle.c_cells.specs.declared.structs.StructKinds.{StructKinds}
use Rattle.c_cells.specs.Structs.{AreStructKinds}
use Rattle.c_lowered.specs.Locations.{Linking}
use Rattle.c_lowered.specs.Operations.{return_code}
use Rattle.c_lowered.specs.Counts.{stmt_jumps}
use Rattle.c_lowered.specs.Statements.{stmt_code, targets}
use Rattle.c_lowered.specs.Whole.{function_code, function_jumps, function_linking}
use Rattle.c_counted.specs.Numbers.{IsNumber}
use Rattle.c_addressing.specs.declared.here.Here.{Here}
use Rattle.c_addressing.specs.declared.here.Output.{Output}
use Rattle.c_addressing.specs.Here.{IsHere, AreLiterals}
use Rattle.c_addressing.specs.Names.{entry_in}
use Rattle.c_addressing.specs.Places.{AreLocations}
use Rattle.c_applied.specs.Leads.{Leads, Keeps}
use Rattle.c_lower_blocks.specs.Blocks.{IsBeside, IsSame}
use Rattle.c_lower.specs.Parameters.{HaveNumbers}

-- the definition of a function of a signature
abbrev pub defined : Scope → List ℕ → List CDecl → CStmt → plain.Signature → Definition
defined s name params body g = record { name = name; result = g.result; params = map (λ d. d.name) params; scope = body_scope s name g; body = body }

-- ---- a body

-- a body whose parameters are known got its code, and the return behind it
pub record LowersBody (old new : Output) (h e : Here) (kinds : StructKinds) (free : ℕ) (t : CStmt) (k told : ℕ) : Type 0 where
  pub keeps : Keeps old new
  pub beside : IsBeside h e
  pub code : (w : Linking) (env : Environment) (m n : ℕ) → IsHere h old w env → AreStructKinds old.types kinds env.scope.tags → env.next ≡ length h.bases.items → IsNumber free n → IsNumber k m → DeclaresInBlocks t
      → Leads old new (stmt_code t w env m n (targets 0 0) ++ return_code) (length (stmt_literals env.scope t)) told (m + (stmt_jumps t + 1))

-- ---- parameters that are forgotten

-- names and places more
pub record IsWithin (h e : Here) : Type 0 where
  pub slots : e.slots.outer ≡ h.slots.block ++ h.slots.outer
  pub bases : take (length h.bases.items) e.bases.items ≡ h.bases.items

-- they go again, and what is declared stays
pub record AreForgotten (h e new : Here) : Type 0 where
  pub block : new.slots.block ≡ h.slots.block
  pub outer : new.slots.outer ≡ h.slots.outer
  pub bases : new.bases.items ≡ h.bases.items
  pub declared : new.declared ≡ e.declared
  pub entries : new.entries ≡ e.entries

-- ---- a function

-- what the code knows before a function of file scope: names, places, first blocks, and the literals that come next
pub record StandsBefore (h : Here) (out : Output) (w : Linking) (names : List (List ℕ × Option ℕ)) (f : Definition) : Type 0 where
  pub slots : HaveNumbers h.slots names
  pub bases : AreLocations h.bases.items w.bases
  pub entries : (name : List ℕ) → IsNumber (entry_in h.entries.entries name) (w.entry name)
  pub literals : AreLiterals out.literals (function_linking w f) 0

-- a function of a name and a signature got its code, and what was known before it is known again
pub record LowersFunction (old new : Output) (h e : Here) (kinds : StructKinds) (name : List ℕ) (v : rust.Signature) (params : List CDecl) (body : CStmt) (k told : ℕ) : Type 0 where
  pub keeps : Keeps old new
  pub same : IsSame h e
  pub code : (w : Linking) (s : Scope) (g : plain.Signature) (names : List (List ℕ × Option ℕ)) (m : ℕ) → Holds old.types h.declared s → IsSignature old.types s v g → StandsBefore h old w names (defined s name params body g)
      → AreStructKinds old.types kinds s.tags → IsNumber k m → DeclaresInBlocks body
      → Leads old new (function_code w names (defined s name params body g) m) (length (stmt_literals (body_scope s name g) body)) told (m + function_jumps (defined s name params body g))
