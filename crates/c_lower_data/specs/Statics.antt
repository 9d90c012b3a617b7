-- Words of first values at file scope.
use Rattle.std.specs.Prelude.{◌≡◌, ℕ, Bool, ◌&&◌, List, [], ◌++◌, length, map, None}
use Rattle.word24.specs.declared.word.Word.{Word}
use Rattle.c_eval.specs.State.{Cell}
use Rattle.c_eval.specs.Environment.{Environment}
use Rattle.c_syntax.specs.Words.{meaning}
use Rattle.c_static.specs.Forms.{is_object}
use Rattle.c_lowered.specs.Locations.{Linking}
use Rattle.c_lowered.specs.Whole.{cell_word, words_from}
use Rattle.c_addressing.specs.declared.here.Here as rust
use Rattle.c_addressing.specs.declared.here.Output.{Output}
use Rattle.c_addressing.specs.Here.{IsHere, Emits}

-- the code knows what is declared at file scope, and where all lies
pub record IsAtFile (h : rust.Here) (out : Output) (w : Linking) (env : Environment) : Type 0 where
  pub here : IsHere h out w env
  pub owner : w.owner ≡ None

-- the words of cells stand behind others, and their literals were passed
pub record AddsWords (a b : Output) (old new : List Word) (w : Linking) (cells : List Cell) (literals : List (List ℕ)) : Type 0 where
  pub words : new ≡ old ++ words_from (map (cell_word w) cells)
  pub emits : Emits a b [] (length literals)

-- a name stands for an object, and has a number
abbrev pub names_object : rust.Here → List ℕ → Bool
names_object h name = is_object (meaning (h.declared.names.block ++ h.declared.names.outer) name) && is_object (meaning (h.slots.block ++ h.slots.outer) name)
