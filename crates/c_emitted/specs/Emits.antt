-- What is emitted.
use Rattle.std.specs.Prelude.{◌≡◌, ℕ, ◌+◌, suc, List, [], ◌∷◌, ◌++◌, length, map, take, drop, Option, Some, None, slice_get}
use Rattle.std.specs.Map.{lookup}
use Rattle.std.specs.Str.{bytes_eq}
use denote.Ref.{Bor}
use Rattle.c_syntax.specs.Words.{meaning}
use Rattle.c_code.specs.Code as code
use Rattle.c_store.specs.Shown.{value_of, cell_of}
use Rattle.c_plain.specs.declared.instruction.Instruction.{Instruction}
use Rattle.c_emitted.specs.declared.emitter.File.{File}
use Rattle.c_emitted.specs.declared.emitter.Emitter.{Emitter}
use Rattle.c_plain.specs.declared.instruction.Instruction.TheVariants as plain
use Rattle.c_plain.specs.declared.instruction.Span.{Span}
use Rattle.c_plain.specs.Program.{Program, in_span}
use Rattle.c_emitted.specs.Tables.{Tables, tables_in, Extends, AreMeant}

abbrev pub texts : List (Bor (List ℕ)) → List (List ℕ)
texts keys = map (λ k. k.now) keys

abbrev pub tables_of : Emitter → Tables
tables_of e = record {
  constants = map value_of e.constants.items;
  kinds = e.kinds.items;
  lengths = e.lengths.items;
  bytes = e.bytes.items;
  literals = e.literals.items;
  names = texts e.names.keys;
  files = map (λ cells. length cells) (map (λ cells. map cell_of cells.items) e.objects.items);
}

-- the object of file scope that has a name
abbrev pub file_named : Emitter → List ℕ → Option File
file_named e name = lookup (λ k. bytes_eq name k.now) e.files.entries

-- code is emitted in the same function and over the same objects
pub record StaysIn (a b : Emitter) : Type 0 where
  pub owner : b.owner ≡ a.owner
  pub objects : b.objects.items ≡ a.objects.items
  pub files : b.files.entries ≡ a.files.entries

-- an emitter has emitted this code of C more, with these string literals
pub record Emits (a b : Emitter) (is : List code.Instruction) (literals : List (List ℕ)) : Type 0 where
  pub code : List Instruction
  pub behind : b.code ≡ a.code ++ code
  pub count : length code ≡ length is
  pub meant : AreMeant (tables_of b) is code
  pub tables : Extends (tables_of a) (tables_of b)
  pub stays : StaysIn a b
  pub before : b.before ≡ a.before + length literals

-- ---- entries of tables

-- a span of a table tells these entries, in each program that has these tables
pub record SpanIs {A : Type 0} (t : Tables) (table : Program → List A) (s : Span) (entries : List A) : Type 0 where
  pub is : (names : List (List ℕ)) (p : Program) → Extends t (tables_in names p) → in_span (table p) s ≡ entries

-- the objects of file scope have these numbers, and so many cells
abbrev pub IsFile : (lengths : List ℕ) → Option File → Option (Option ℕ) → Type 0
IsFile lengths (Some f) o = (o ≡ Some (Some f.object)) × (slice_get lengths f.object ≡ Some f.length)
IsFile lengths None o = (o ≡ None)

pub record AreFiles (e : Emitter) (names : List (List ℕ × Option ℕ)) : Type 0 where
  pub found : (name : List ℕ) → IsFile (tables_of e).files (file_named e name) (meaning names name)

-- ---- instructions that are told later

-- all but the code is as it was
pub record KeepsTables (a b : Emitter) : Type 0 where
  pub tables : tables_of b ≡ tables_of a
  pub stays : StaysIn a b
  pub before : b.before ≡ a.before

-- the place of an instruction is kept
pub record Reserves (a b : Emitter) (at : ℕ) : Type 0 where
  pub place : at ≡ length a.code
  pub code : b.code ≡ a.code ++ plain.End ∷ []
  pub keeps : KeepsTables a b

-- an instruction stands there
pub record Fills (a b : Emitter) (at : ℕ) (i : Instruction) : Type 0 where
  pub code : b.code ≡ take at a.code ++ (i ∷ drop (suc at) a.code)
  pub keeps : KeepsTables a b
