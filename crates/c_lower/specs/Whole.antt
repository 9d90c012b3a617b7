-- What is known of a whole text before its code is made.
use Rattle.std.specs.Prelude.{ℕ, ◌+◌, true, List, length}
use Rattle.std.specs.List.{flat_map}
use denote.Ref.{Bor}
use Rattle.c_syntax.specs.Plain.{CUnit}
use Rattle.c_eval.specs.Text.{text_of, file_start}
use Rattle.c_scopes.specs.Blocks.{Blocks}
use Rattle.c_emission.specs.declared.location.Location.{Location}
use Rattle.c_lowered.specs.Whole.{firsts_given, words_given, file_literals, letter_words, frames, linking_of}
use Rattle.c_counted.specs.Numbers.{IsNumber}
use Rattle.c_addressing.specs.Names.{entry_in}
use Rattle.c_addressing.specs.Places.{AreLocations}
use Rattle.c_lower.specs.Parameters.{HaveNumbers}

-- the address of the first literal of a function, behind the objects that have first values and their literals
abbrev pub first_of_functions : CUnit → ℕ
first_of_functions u = 1 + words_given true (firsts_given u.items) (text_of u).objects + length (flat_map letter_words (file_literals u.items (file_start u)))

-- the names, the places and the first blocks of file scope, and where the frame of the opening call begins
pub record KnowsText (slots : Blocks) (bases : List Location) (entries : List (Bor (List ℕ) × ℕ)) (at : ℕ) (u : CUnit) : Type 0 where
  pub slots_are : HaveNumbers slots (text_of u).names
  pub bases_are : AreLocations bases (linking_of u).bases
  pub entries_are : (name : List ℕ) → IsNumber (entry_in entries name) ((linking_of u).entry name)
  pub frames_at : IsNumber at (frames u)

-- and where the literals of functions begin
pub record IsPlaced (slots : Blocks) (bases : List Location) (entries : List (Bor (List ℕ) × ℕ)) (first at : ℕ) (u : CUnit) : Type 0 where
  pub knows : KnowsText slots bases entries at u
  pub first_at : IsNumber first (first_of_functions u)
