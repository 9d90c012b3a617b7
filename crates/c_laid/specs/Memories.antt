-- The first memory of the program to which a text is lowered.
use Rattle.std.specs.Prelude.{◌≡◌, ℕ, ◌^◌, ◌≤◌, Bool, true, List}
use Rattle.eir_core.specs.Eir.{size_of}
use Rattle.c_syntax.specs.Plain.{CUnit}
use Rattle.c_types.specs.Limits.{is_small, IsTyped}
use Rattle.c_eval.specs.Text.{text_of}
use Rattle.c_valid.specs.Laws.{FunctionsAreLimited}
use Rattle.c_limited.specs.Laws.{has_bytes}
use Rattle.c_helpers.specs.Simple.{desugared}
use Rattle.c_lowered.specs.Whole.{lowered}
use Rattle.c_laid.specs.Data.{is_valued, DataIs}
use Rattle.c_worlds.specs.Named.{ObjectsAreNamed}

-- it means the text's objects, where the program's size is at most 2^21, the text with fewer operators has the same objects, its functions are within the limits, and each function to which an object points has a first block
abbrev pub FirstMemoriesMean : Type 0
FirstMemoriesMean =
    (u : CUnit) (test : List ℕ → Bool) → IsTyped u → is_small u ≡ true → has_bytes u ≡ true → (text_of (desugared u)).objects ≡ (text_of u).objects → FunctionsAreLimited (text_of (desugared u)).functions → size_of (lowered (desugared u)) ≤ 2 ^ 21
    → ObjectsAreNamed (λ name. test name ≡ true) (text_of u).objects → ((name : List ℕ) → test name ≡ true → is_valued (desugared u) name ≡ true) → DataIs (desugared u)
