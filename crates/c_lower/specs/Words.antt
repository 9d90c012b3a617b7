-- Words of first values at file scope, and what is known behind the externals that have them.
use Rattle.std.specs.Prelude.{◌≡◌, ℕ, suc, true, List, [], ◌∷◌, ◌++◌, map, Option, Some, None}
use Rattle.word24.specs.declared.word.Word.{Word}
use Rattle.c_syntax.specs.Plain as plain
use Rattle.c_syntax.specs.Plain.{CValue, CDecl, CItem}
use Rattle.c_types.specs.Types.{CType}
use Rattle.c_types.specs.Declarations.{declared, scope_or}
use Rattle.c_eval.specs.Environment.{Environment, object_type_in}
use Rattle.c_eval.specs.Text.{static_cells, behind_item, behind_items, file_objects}
use Rattle.c_cells.specs.declared.structs.StructKinds.{StructKinds}
use Rattle.c_cells.specs.Structs.{AreStructKinds}
use Rattle.c_lowered.specs.Locations.{Linking}
use Rattle.c_lowered.specs.Whole.{cell_word, words_from, firsts_given, given_words}
use Rattle.c_addressing.specs.declared.here.Here.{Here}
use Rattle.c_addressing.specs.declared.here.Output.{Output}
use Rattle.c_lower_data.specs.Statics.{IsAtFile}

-- behind the name of an object, whose first value comes next
abbrev pub behind_name : CDecl → Environment → Environment
behind_name d env = record { scope = scope_or env.scope (declared env.scope true d); objects = (d.name, Some env.next) ∷ env.objects; next = suc env.next; literals_before = env.literals_before }

-- the words of a first value, if there is one
abbrev pub first_words : Linking → CType → Option CValue → Environment → List ℕ
first_words w t None env = []
first_words w t (Some v) env = map (cell_word w) (static_cells v t env)

-- those of an external
abbrev pub item_words : Linking → CItem → Environment → List ℕ
item_words w (plain.Object d) env = first_words w (object_type_in env.scope d) d.first (behind_name d env)
item_words w item env = []

-- what the code knows before an external: what is declared there, where all lies, the kinds of structs, and the next object's number
pub record IsBefore (h : Here) (kinds : StructKinds) (out : Output) (number : ℕ) (w : Linking) (env : Environment) : Type 0 where
  pub at : IsAtFile h out w env
  pub structs : AreStructKinds out.types kinds env.scope.tags
  pub next : number ≡ env.next

-- words stand behind others, and this is known from then on
pub record AddsFirst (h : Here) (out : Output) (old new : List Word) (w : Linking) (words : List ℕ) (env : Environment) : Type 0 where
  pub words_are : new ≡ old ++ words_from words
  pub at : IsAtFile h out w env

-- an external is passed: its words stand behind others, and this is known behind it
pub record Passes (h : Here) (kinds : StructKinds) (out : Output) (number : ℕ) (w : Linking) (env : Environment) (item : CItem) (old new : List Word) : Type 0 where
  pub words_are : new ≡ old ++ words_from (item_words w item env)
  pub is : IsBefore h kinds out number w (behind_item item env)

-- several externals are passed
pub record PassesAll (h : Here) (out : Output) (w : Linking) (env : Environment) (items : List CItem) (old new : List Word) : Type 0 where
  pub words_are : new ≡ old ++ words_from (given_words w (firsts_given items) (file_objects items env))
  pub at : IsAtFile h out w (behind_items items env)

-- several externals are passed: their words lie behind that of null, and others behind them
pub record PassesBetween (h : Here) (out : Output) (w : Linking) (env : Environment) (items : List CItem) (words behind : List Word) : Type 0 where
  pub values : List Word
  pub passes : PassesAll h out w env items (words_from (0 ∷ [])) values
  pub words_are : words ≡ values ++ behind
