-- Programs of a limited size have room in memory, and their blocks are numbered by words.
use Rattle.std.specs.Prelude.{◌≡◌, ℕ, ◌+◌, ◌^◌, ◌<◌, ◌≤◌, true, List, [], ◌∷◌, length}
use Rattle.eir_core.specs.Eir.{size_of}
use Rattle.c_syntax.specs.Plain.{CUnit}
use Rattle.c_types.specs.Limits.{is_small, IsTyped}
use Rattle.c_eval.specs.State.{Object}
use Rattle.c_eval.specs.Run.{most_charge}
use Rattle.c_eval.specs.Text.{text_of}
use Rattle.c_place.specs.Code.{jumps}
use Rattle.c_lowered.specs.Whole.{frames, whole_code, lowered}

-- the words of objects
abbrev pub cells_in : List Object → ℕ
cells_in [] = 0
cells_in (x ∷ xs) = length x.cells + cells_in xs

-- the objects of file scope of a typed text within the limits have at most 2^22 words and as many more as the text's weight
abbrev pub ObjectsAreFew : Type 0
ObjectsAreFew = (u : CUnit) → IsTyped u → is_small u ≡ true → cells_in (text_of u).objects ≤ 2 ^ 22 + 2 ^ 16

pub record HasRoom (v : CUnit) : Type 0 where
  pub few : jumps (whole_code v) < 2 ^ 24
  pub room : frames v + most_charge + 1024 < 2 ^ 24

-- a program of at most 2^21, from a text whose objects are those of a typed one within the limits, has blocks that are numbered by words, and room for the frames of live calls and of helper functions
abbrev pub SmallProgramsHaveRoom : Type 0
SmallProgramsHaveRoom = (u v : CUnit) → IsTyped u → is_small u ≡ true → (text_of v).objects ≡ (text_of u).objects → size_of (lowered v) ≤ 2 ^ 21 → HasRoom v
