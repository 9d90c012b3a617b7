-- Functions that got their code, one behind the other.
use Rattle.std.specs.Prelude.{◌≡◌, ℕ, ◌+◌, List, [], ◌∷◌, ◌++◌, Option}
use Rattle.c_types.specs.Scope.{Scope}
use Rattle.c_eval.specs.Text.{Definition}
use Rattle.c_declared.specs.Held.{Holds}
use Rattle.c_cells.specs.declared.structs.StructKinds.{StructKinds}
use Rattle.c_cells.specs.Structs.{AreStructKinds}
use Rattle.c_lowered.specs.Locations.{Linking}
use Rattle.c_lowered.specs.Whole.{function_jumps, functions_code}
use Rattle.c_counted.specs.Numbers.{IsNumber}
use Rattle.c_addressing.specs.declared.here.Here.{Here}
use Rattle.c_addressing.specs.declared.here.Output.{Output}
use Rattle.c_addressing.specs.Names.{entry_in}
use Rattle.c_addressing.specs.Places.{AreLocations}
use Rattle.c_applied.specs.Leads.{Keeps}
use Rattle.c_lower.specs.Parameters.{HaveNumbers}
use Rattle.c_lower.specs.declared.placed.Placed.{Placed}
use Rattle.c_lower.specs.Placed.{PlacesLiterals}

-- names, places and first blocks are those of the definitions
pub record KnowsPlaces (h : Here) (w : Linking) (names : List (List ℕ × Option ℕ)) : Type 0 where
  pub slots : HaveNumbers h.slots names
  pub bases : AreLocations h.bases.items w.bases
  pub entries : (name : List ℕ) → IsNumber (entry_in h.entries.entries name) (w.entry name)

-- what the code knows before an external: what is declared there, the kinds of structs, and where all lies
pub record IsBefore (h : Here) (kinds : StructKinds) (out : Output) (placed : Placed) (w : Linking) (names : List (List ℕ × Option ℕ)) (s : Scope) : Type 0 where
  pub holds : Holds out.types h.declared s
  pub structs : AreStructKinds out.types kinds s.tags
  pub places : KnowsPlaces h w names
  pub literals : PlacesLiterals placed w.literal

-- the block behind functions, the first of which begins in one
abbrev pub block_behind : List Definition → ℕ → ℕ
block_behind [] m = m
block_behind (f ∷ fs) m = block_behind fs (m + function_jumps f)

-- functions have their code behind what stood there, from a block on, and a block is told that comes behind them
pub record HaveCode (old new : Output) (w : Linking) (names : List (List ℕ × Option ℕ)) (fs : List Definition) (m told : ℕ) : Type 0 where
  pub code : new.ops.items ≡ old.ops.items ++ functions_code w names fs m
  pub block : IsNumber told (block_behind fs m)

-- functions got their code
pub record AddsFunctions (old new : Output) (w : Linking) (names : List (List ℕ × Option ℕ)) (fs : List Definition) (first told : ℕ) : Type 0 where
  pub keeps : Keeps old new
  pub have : (m : ℕ) → IsNumber first m → HaveCode old new w names fs m told

-- an external is passed: the functions that it defines got their code, and this is known behind it
pub record Passes (h : Here) (kinds : StructKinds) (old new : Output) (placed : Placed) (w : Linking) (names : List (List ℕ × Option ℕ)) (first told : ℕ) (inner : Scope) (fs : List Definition) : Type 0 where
  pub adds : AddsFunctions old new w names fs first told
  pub is : IsBefore h kinds new placed w names inner
