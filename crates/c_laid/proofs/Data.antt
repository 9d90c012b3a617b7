-- The first memory of the program of a text with fewer operators.
use Rattle.std.proofs.Common.{◌≡◌, ℕ, ◌+◌, ◌^◌, ◌<◌, true, List, [], ◌∷◌, sym, subst, arith}
use Rattle.c_eval.specs.State.{Value, Word, Null, Point, Letter, Function, Missing, Cell, Unset, Holds, Object}
use Rattle.c_eval.specs.Run.{most_charge}
use Rattle.c_eval.specs.Text.{text_of}
use Rattle.c_helpers.specs.Simple.{desugared}
use Rattle.c_lowered.specs.Whole.{frames}
use Rattle.c_laid.specs.Data.{is_valued}
use Rattle.c_worlds.specs.Named.{IsNamed, CellsAreNamed, ObjectsAreNamed}
use Rattle.c_laid.proofs.Sizes.{small_programs_have_room}
use Rattle.c_laid.specs.Fits.{HaveWords}
use Rattle.c_laid.proofs.Fits.{data_fits}
use Rattle.c_laid.proofs.Whole.{literals_of_texts_are_words}
use Rattle.c_laid.proofs.FirstMemoriesObjects.{objects_have_words}
use Rattle.c_laid.specs.Memories.{FirstMemoriesMean}

-- what holds of each function to which an object points
module _ (P Q : List ℕ → Type 0) (to : (name : List ℕ) → P name → Q name) where
  value_named : (v : Value) → IsNamed P v → IsNamed Q v
  value_named (Function name) h = to name h
  value_named (Word n) h = tt
  value_named Null h = tt
  value_named (Point o i) h = tt
  value_named (Letter f i text j) h = tt
  value_named Missing h = tt

  cells_named : (cells : List Cell) → CellsAreNamed P cells → CellsAreNamed Q cells
  cells_named [] h = tt
  cells_named (Unset ∷ cells) h = (tt, cells_named cells h.1)
  cells_named (Holds v ∷ cells) h = (value_named v h.0, cells_named cells h.1)

  objects_named : (xs : List Object) → ObjectsAreNamed P xs → ObjectsAreNamed Q xs
  objects_named [] h = tt
  objects_named (x ∷ xs) h = (cells_named x.cells h.0, objects_named xs h.1)

below : (n : ℕ) → n + most_charge + 1024 < 2 ^ 24 → n < 2 ^ 24
below n h = omega (arith, h)

pub first_memories_mean : FirstMemoriesMean
first_memories_mean u test typed small bytes objects limited size named valued =
    let room = small_programs_have_room u (desugared u) typed small objects size in
    let P : List ℕ → Type 0 = λ name. test name ≡ true in
    let Q : List ℕ → Type 0 = λ name. is_valued (desugared u) name ≡ true in
    data_fits (desugared u) (below (frames (desugared u)) room.room) room.few (subst HaveWords (sym objects) (objects_have_words u typed)) (literals_of_texts_are_words u small bytes limited)
    (subst (λ xs. ObjectsAreNamed Q xs) (sym objects) (objects_named P Q valued (text_of u).objects named))
