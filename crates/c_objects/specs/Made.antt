-- Objects of file scope while they are made.
use Rattle.std.specs.Prelude.{◌≡◌, ℕ, ◌+◌, List, [], ◌∷◌, ◌++◌, length, replicate, map, Option, Some, None, Vec}
use Rattle.std.specs.declared.alloc.Global.{Global}
use Rattle.std.specs.Str.{bytes_eq}
use Rattle.ordered.specs.Order.{insert_entry}
use denote.Ref.{Bor}
use Rattle.c_syntax.specs.Plain.{CValue}
use Rattle.c_types.specs.Scope.{Scope}
use Rattle.c_eval.specs.State as run
use Rattle.c_eval.specs.Environment.{Environment}
use Rattle.c_store.specs.declared.value.Cell as rust
use Rattle.c_store.specs.declared.value.Cell.TheVariants as rust_cell
use Rattle.c_store.specs.Values.{Cell}
use Rattle.c_store.specs.Shown.{cell_of}
use Rattle.c_plain.specs.Program.{Program}
use Rattle.c_resolved.specs.Same.{SameBlock}
use Rattle.c_resolved.specs.Means as means
use Rattle.c_resolved.specs.Means.{file_lengths}
use Rattle.c_types.specs.Table.{Table}
use Rattle.c_operands.specs.declared.declarations.Declarations.{Declarations}
use Rattle.c_declared.specs.Held.{Holds}
use Rattle.c_emitted.specs.declared.emitter.Emitter.{Emitter}
use Rattle.c_emitted.specs.Tables.{tables_in, Extends}
use Rattle.c_emitted.specs.Emits.{tables_of, AreFiles}
use Rattle.c_eval.specs.Memory.{live_object}
use Rattle.c_cells.specs.declared.structs.StructKinds.{StructKinds}
use Rattle.c_cells.specs.Structs.{AreStructKinds}
use Rattle.c_static.specs.Forms.{IsQuietValue}
use Rattle.c_static.specs.Cells.{ShowCells}

abbrev pub IsQuietFirst : Scope → Option CValue → Type 0
IsQuietFirst s None = Unit {0}
IsQuietFirst s (Some v) = IsQuietValue s v

-- what the code knows of the objects before an external
pub record StandsAtFile (out : Emitter) (here : Environment) : Type 0 where
  pub files : AreFiles out here.objects
  pub owner : out.owner ≡ 0
  pub before : out.before ≡ here.literals_before
  pub next : here.next ≡ length out.objects.items
  -- no code is emitted
  pub code : out.code ≡ []

-- a place behind the name of one object more, before its first value
pub record IsBehindName (here inner : Environment) (name : List ℕ) : Type 0 where
  pub objects : inner.objects ≡ (name, Some here.next) ∷ here.objects
  pub before : inner.literals_before ≡ here.literals_before

-- an object of so many unset cells more
pub record AddsFile (a b : Emitter) (name : Bor (List ℕ)) (count : ℕ) : Type 0 where
  pub cells : Vec rust.Cell Global
  pub unset : cells.items ≡ replicate count rust_cell.Unset
  pub objects : b.objects.items ≡ a.objects.items ++ cells ∷ []
  pub files : b.files.entries ≡ insert_entry (λ x y. bytes_eq x.now y.now) a.files.entries name (record { object = length a.objects.items; length = count })
  pub rest : b ≡ record a { objects = b.objects; files = b.files }

-- the last object has other cells
pub record SetsLast (a b : Emitter) (cells : List rust.Cell) : Type 0 where
  pub object : Vec rust.Cell Global
  pub is : object.items ≡ cells
  pub objects : (others : List (Vec rust.Cell Global)) (last : Vec rust.Cell Global) → a.objects.items ≡ others ++ last ∷ [] → b.objects.items ≡ others ++ object ∷ []
  pub rest : b ≡ record a { objects = b.objects }

-- an object with its first value more
pub record AddsObject (a b : Emitter) (inner : Environment) (cells : List run.Cell) (literals : List (List ℕ)) : Type 0 where
  pub object : Vec rust.Cell Global
  pub objects : b.objects.items ≡ a.objects.items ++ object ∷ []
  pub shown : ShowCells (tables_of b) cells object.items
  pub tables : Extends (tables_of a) (tables_of b)
  pub code : b.code ≡ a.code
  pub files : AreFiles b inner.objects
  pub owner : b.owner ≡ 0
  pub before : b.before ≡ inner.literals_before + length literals

-- the cells of the objects of file scope, as a program has them
abbrev pub shown_objects : Emitter → List (List Cell)
shown_objects out = map (λ cells. map cell_of cells.items) out.objects.items

-- they are those of a run, in each program that has these tables, and perhaps more behind them
pub record AreShown (out : Emitter) (new : List (List run.Cell)) : Type 0 where
  pub same : (names : List (List ℕ)) (p : Program) → Extends (tables_of out) (tables_in names p) → SameBlock (means.tables_of names p) (file_lengths p) new (shown_objects out)

-- what the code knows at file scope, where these objects are made
pub record IsFile (table : Table) (d : Declarations) (out : Emitter) (here : Environment) (new : List (List run.Cell)) : Type 0 where
  pub holds : Holds table d here.scope
  pub stands : StandsAtFile out here
  pub shown : AreShown out new

-- objects of a run are made besides those before, and what is declared is known
pub record Makes (table : Table) (d : Declarations) (structs : StructKinds) (out : Emitter) (here : Environment) (before : List (List run.Cell)) (objects : List run.Object) : Type 0 where
  pub more : List (List run.Cell)
  pub is : IsFile table d out here (before ++ more)
  pub structs_are : AreStructKinds table structs here.scope.tags
  pub made : objects ≡ map live_object more
