-- The functions of a text, external by external.
use Rattle.std.specs.Prelude.{◌≡◌, ℕ, List, [], ◌∷◌, ◌++◌, length, map, Option, Some, slice_get, codes}
use Rattle.c_syntax.specs.Plain as plain
use Rattle.c_syntax.specs.Plain.{CItem, CUnit}
use Rattle.c_types.specs.Declarations.{scope_or}
use Rattle.c_types.specs.Units.{signature, item_judged}
use Rattle.c_types.specs.Room.{charge_in}
use Rattle.c_types.specs.Scope.{Scope}
use Rattle.c_eval.specs.State as run
use Rattle.c_eval.specs.Memory.{live_object}
use Rattle.c_eval.specs.Meaning.{Rules}
use Rattle.c_eval.specs.Text.{Definition, file_objects, file_start, behind_items}
use Rattle.c_code.specs.Code as code
use Rattle.c_code.specs.Machine.{functions_code, entries_of}
use Rattle.c_types.specs.Table.{Table}
use Rattle.c_declared.specs.Held.{Holds}
use Rattle.c_here.specs.declared.here.Here.{Here}
use Rattle.c_cells.specs.declared.structs.StructKinds.{StructKinds}
use Rattle.c_cells.specs.Structs.{AreStructKinds}
use Rattle.c_emitted.specs.declared.emitter.Emitter.{Emitter}
use Rattle.c_emitted.specs.Emits.{tables_of, AreFiles, Emits}
use Rattle.c_linked.specs.declared.program.Compiled.{Compiled}
use Rattle.c_linked.specs.Linked.{AreCompiled}
use Rattle.c_flat.specs.Defined.{AddsCode}
use Rattle.c_objects.specs.Made.{StandsAtFile, AreShown}

-- what the code knows before an external: what is declared there, the kinds of structs, and the objects of file scope
pub record IsBefore (table : Table) (h : Here) (kinds : StructKinds) (out : Emitter) (names : List (List ℕ × Option ℕ)) (s : Scope) : Type 0 where
  pub holds : Holds table h.declared s
  pub structs : AreStructKinds table kinds s.tags
  pub files : AreFiles out names

-- functions got their code, and their entries stand behind those before
pub record AddsFunctions (rules : Rules) (a b : Emitter) (names : List (List ℕ × Option ℕ)) (before after : List Compiled) (fs : List Definition) : Type 0 where
  pub more : List Compiled
  pub behind : after ≡ before ++ more
  pub adds : AddsCode a b (functions_code names fs)
  pub entries : AreCompiled (tables_of b).names (entries_of rules names fs (length a.code)) more

-- what stands before the functions was emitted, they got their code, and this is the number of `main`
pub record AddsWhole (rules : Rules) (a d : Emitter) (names : List (List ℕ × Option ℕ)) (compiled : List Compiled) (main : ℕ) (fs : List Definition) : Type 0 where
  pub headed : Emitter
  pub added : Emitter
  pub heading_is : Emits a headed (code.Nowhere ∷ code.End ∷ []) []
  pub functions : AddsFunctions rules headed added names [] compiled fs
  pub name : Emits added d [] []
  pub named : slice_get (tables_of d).names main ≡ Some (codes "main")

-- an external is passed: the functions that it defines got their code, and this is known behind it
pub record Passes (rules : Rules) (table : Table) (h : Here) (kinds : StructKinds) (a b : Emitter) (names : List (List ℕ × Option ℕ)) (before after : List Compiled) (inner : Scope) (fs : List Definition) : Type 0 where
  pub adds : AddsFunctions rules a b names before after fs
  pub is : IsBefore table h kinds b names inner

-- the rules have the charge of the function that an external defines
abbrev pub KnowsCharge : Rules → Scope → CItem → Type 0
KnowsCharge rules s (plain.Function name at result params (Some body)) = rules.charge name ≡ charge_in s name params body (signature s at result params)
KnowsCharge rules s _ = Unit {0}

-- of each function that externals define
abbrev pub KnowsCharges : Rules → Scope → List CItem → Type 0
KnowsCharges rules s [] = Unit {0}
KnowsCharges rules s (item ∷ items) = KnowsCharge rules s item × KnowsCharges rules (scope_or s (item_judged s item)) items

-- the objects of file scope of a text are made, and no code
pub record HasObjects (out : Emitter) (u : CUnit) : Type 0 where
  pub new : List (List run.Cell)
  pub made : file_objects u.items (file_start u) ≡ map live_object new
  pub stands : StandsAtFile out (behind_items u.items (file_start u))
  pub shown : AreShown out new
