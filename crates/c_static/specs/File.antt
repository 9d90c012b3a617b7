-- Code and cells at file scope.
use Rattle.std.specs.Prelude.{◌≡◌, ℕ, List}
use Rattle.c_eval.specs.State as run
use Rattle.c_eval.specs.Environment.{Environment}
use Rattle.c_types.specs.Table.{Table}
use Rattle.c_operands.specs.declared.declarations.Declarations.{Declarations}
use Rattle.c_declared.specs.Held.{Holds}
use Rattle.c_plain.specs.Program.{Program}
use Rattle.c_store.specs.declared.value.Value as rust
use Rattle.c_store.specs.Shown.{value_of}
use Rattle.c_resolved.specs.Same.{Same}
use Rattle.c_resolved.specs.Means as means
use Rattle.c_resolved.specs.Means.{file_lengths}
use Rattle.c_emitted.specs.declared.emitter.Emitter.{Emitter}
use Rattle.c_emitted.specs.Tables.{Tables, tables_in, Extends}
use Rattle.c_emitted.specs.Emits.{AreFiles}

-- what the code knows at file scope is what the definitions say of the place
pub record IsAtFile (table : Table) (d : Declarations) (out : Emitter) (here : Environment) : Type 0 where
  pub holds : Holds table d here.scope
  pub files : AreFiles out here.objects
  pub owner : out.owner ≡ 0
  pub before : out.before ≡ here.literals_before

-- a value of a run is what the code has for it, in each program that has these tables, and perhaps more behind them
pub record IsWorth (t : Tables) (v : run.Value) (w : rust.Value) : Type 0 where
  pub same : (names : List (List ℕ)) (p : Program) → Extends t (tables_in names p) → Same (means.tables_of names p) (file_lengths p) v (value_of w)
