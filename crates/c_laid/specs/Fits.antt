-- When the first words of a program mean what the objects of its text hold.
use Rattle.std.specs.Prelude.{◌≡◌, ℕ, ◌^◌, ◌<◌, ◌≤◌, true, List, [], ◌∷◌, length}
use Rattle.c_syntax.specs.Plain.{CUnit}
use Rattle.c_eval.specs.State.{Object}
use Rattle.c_eval.specs.Text.{text_of}
use Rattle.c_place.specs.Code.{jumps}
use Rattle.c_lowered.specs.Whole.{Literals, literals_of, frames, whole_code}
use Rattle.c_laid.specs.Data.{is_valued, DataIs}
use Rattle.c_worlds.specs.Named.{ObjectsAreNamed}

abbrev pub AreWords : List ℕ → Type 0
AreWords [] = Unit {0}
AreWords (c ∷ cs) = (c < 2 ^ 24) × AreWords cs

abbrev pub AllAreWords : List (List ℕ) → Type 0
AllAreWords [] = Unit {0}
AllAreWords (text ∷ texts) = AreWords text × AllAreWords texts

-- the characters of literals are words
abbrev pub LiteralsAreWords : Literals → Type 0
LiteralsAreWords [] = Unit {0}
LiteralsAreWords (entry ∷ more) = AllAreWords entry.1 × LiteralsAreWords more

abbrev pub HaveWords : List Object → Type 0
HaveWords [] = Unit {0}
HaveWords (x ∷ xs) = (1 ≤ length x.cells) × HaveWords xs

-- so it is where frames and blocks are numbered by words, each object has a word, literals are words, and each function to which an object of file scope points has a first block
abbrev pub DataFits : Type 0
DataFits =
    (u : CUnit) → frames u < 2 ^ 24 → jumps (whole_code u) < 2 ^ 24 → HaveWords (text_of u).objects → LiteralsAreWords (literals_of u) → ObjectsAreNamed (λ name. is_valued u name ≡ true) (text_of u).objects
    → DataIs u
