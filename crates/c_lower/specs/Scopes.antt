-- What is known of a text's file scope before its code is made.
use Rattle.std.specs.Prelude.{◌≡◌, ℕ, ◌+◌, true, List, ◌++◌, length}
use Rattle.std.specs.List.{flat_map}
use Rattle.c_syntax.specs.Plain.{CUnit}
use Rattle.c_syntax.specs.Words.{meaning}
use Rattle.c_eval.specs.LiteralsIn.{stmt_literals}
use Rattle.c_eval.specs.Text.{Definition, text_of, file_start}
use Rattle.c_lowered.specs.Whole.{firsts_given, words_given, file_literals, letter_words, words_from, linking_of, frames, data_words}
use Rattle.c_counted.specs.Numbers.{IsNumber}
use Rattle.c_addressing.specs.Names.{slot_of, entry_in}
use Rattle.c_addressing.specs.Places.{AreLocations}
use Rattle.c_lower.specs.declared.scope.Bases.{Bases}
use Rattle.c_lower.specs.declared.scope.FileScope.{FileScope}

-- the texts of the string literals of functions, one function behind the other
abbrev pub functions_literals : List Definition → List (List ℕ)
functions_literals fs = flat_map (λ f. stmt_literals f.scope f.body) fs

-- the address of the first literal of file scope, behind the objects that have first values
abbrev pub literal_start : CUnit → ℕ
literal_start u = 1 + words_given true (firsts_given u.items) (text_of u).objects

-- the address of the first literal of a function
abbrev pub functions_start : CUnit → ℕ
functions_start u = literal_start u + length (flat_map letter_words (file_literals u.items (file_start u)))

-- the objects lie where the definitions have them, and these addresses are told
pub record KnowsBases (b : Bases) (u : CUnit) : Type 0 where
  pub bases_are : AreLocations b.bases.items (linking_of u).bases
  pub literals_at : IsNumber b.literals (literal_start u)
  pub frames_at : IsNumber b.frames (frames u)

-- numbers, places, first blocks, words and addresses are those of the definitions
pub record IsFileScope (f : FileScope) (u : CUnit) : Type 0 where
  pub slots_are : (name : List ℕ) → slot_of (meaning (f.slots.block ++ f.slots.outer) name) ≡ meaning (text_of u).names name
  pub bases_are : AreLocations f.bases.items (linking_of u).bases
  pub entries_are : (name : List ℕ) → IsNumber (entry_in f.entries.entries name) ((linking_of u).entry name)
  pub words_are : f.words.items ≡ words_from (data_words u)
  pub first_at : IsNumber f.first (functions_start u)
  pub frames_at : IsNumber f.frames (frames u)
