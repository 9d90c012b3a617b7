-- Functions that have got plain code.
use Rattle.std.specs.Prelude.{◌≡◌, ℕ, ◌+◌, List, [], ◌∷◌, ◌++◌, length, map, Option, Some, slice_get}
use Rattle.c_syntax.specs.Plain.{CDecl, CStmt}
use Rattle.c_types.specs.Scope.{Scope}
use Rattle.c_types.specs.Units as plain
use Rattle.c_types.specs.Units.{body_scope}
use Rattle.c_eval.specs.Text.{Definition}
use Rattle.c_code.specs.Code as code
use Rattle.c_code.specs.Code.{Site, stmt_code, slots_for}
use Rattle.c_code.specs.Machine.{parameter_slots, function_code}
use Rattle.c_eval.specs.State as run
use Rattle.c_eval.specs.Environment.{Environment}
use Rattle.c_eval.specs.LiteralsIn.{stmt_literals}
use Rattle.c_resolved.specs.Same.{IsOwner}
use Rattle.c_types.specs.Table.{Table}
use Rattle.c_declared.specs.Held.{Holds}
use Rattle.c_signatures.specs.declared.signature.Signature as rust
use Rattle.c_signatures.specs.Signatures.{IsSignature}
use Rattle.c_pieces.specs.Places.{AreInSlots}
use Rattle.c_here.specs.declared.here.Here.{Here}
use Rattle.c_cells.specs.declared.structs.StructKinds.{StructKinds}
use Rattle.c_cells.specs.Structs.{AreStructKinds}
use Rattle.c_fitting.specs.Whole.{StmtIsFit, TakesNoSlot}
use Rattle.c_plain.specs.declared.instruction.Instruction.{Instruction}
use Rattle.c_resolved.specs.Resolved.{kind_of}
use Rattle.c_emitted.specs.declared.emitter.Emitter.{Emitter}
use Rattle.c_emitted.specs.Tables.{Extends, AreMeant}
use Rattle.c_emitted.specs.Emits.{tables_of, AreFiles, Emits}
use Rattle.c_tracks.specs.Tracks.{told_charge}
use Rattle.c_linked.specs.declared.program.Compiled.{Compiled}

-- the definition of a function of a signature
abbrev pub defined : Scope → List ℕ → List CDecl → CStmt → plain.Signature → Definition
defined s name params body g = record { name = name; result = g.result; params = map (λ d. d.name) params; scope = body_scope s name g; body = body }

-- the place where a body begins whose parameters have these names
abbrev pub body_start : Scope → List ℕ → plain.Signature → List (List ℕ) → Environment
body_start s name g params = record { scope = body_scope s name g; objects = parameter_slots params 0; next = length params; literals_before = 0 }

-- what the code knows where a body begins
pub record IsAtBody (h : Here) (out : Emitter) (count : ℕ) (site : Site) (params : List (List ℕ)) : Type 0 where
  pub slots : AreInSlots h.slots (parameter_slots params 0)
  pub many : length params ≡ count
  pub files : AreFiles out site.names
  pub owner : IsOwner (tables_of out).names site.owner out.owner
  pub before : out.before ≡ 0

-- a body got its code, in the scope of its parameters, and goes no further than its end
abbrev pub CompilesBody : Table → Here → rust.Signature → StructKinds → Emitter → Emitter → List ℕ → ℕ → CStmt → Type 0
CompilesBody table h f kinds a b name count t =
    (s : Scope) (g : plain.Signature) (site : Site) (params : List (List ℕ)) → Holds table h.declared s → IsSignature table s f g → IsAtBody h a count site params → AreStructKinds table kinds s.tags
    → StmtIsFit (body_scope s name g) t → TakesNoSlot t
    → Emits a b (stmt_code t (length params + slots_for t) site (body_start s name g params) ++ code.Push run.Missing ∷ code.Return ∷ []) (stmt_literals (body_scope s name g) t)

-- this code of C was emitted more, over the same objects of file scope, in whatever function
pub record AddsCode (a b : Emitter) (is : List code.Instruction) : Type 0 where
  pub code : List Instruction
  pub behind : b.code ≡ a.code ++ code
  pub count : length code ≡ length is
  pub meant : AreMeant (tables_of b) is code
  pub tables : Extends (tables_of a) (tables_of b)
  pub objects : b.objects.items ≡ a.objects.items
  pub files : b.files.entries ≡ a.files.entries

-- a function got its code, and this is its entry
pub record Defines (a b : Emitter) (names : List (List ℕ × Option ℕ)) (f : Definition) (charge : ℕ) (c : Compiled) : Type 0 where
  pub adds : AddsCode a b (function_code names f)
  pub number : slice_get (tables_of b).names c.function ≡ Some f.name
  pub at : c.entry.at ≡ length a.code
  pub params : c.entry.params ≡ length f.params
  pub result : c.entry.result ≡ kind_of f.result
  pub charged : c.entry.charge ≡ told_charge charge
