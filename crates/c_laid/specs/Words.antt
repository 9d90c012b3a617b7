-- What a typed text within the limits has at file scope, and its literals once operators became calls.
use Rattle.std.specs.Prelude.{◌≡◌, true}
use Rattle.c_syntax.specs.Plain.{CUnit}
use Rattle.c_types.specs.Limits.{is_small, IsTyped}
use Rattle.c_eval.specs.Text.{text_of}
use Rattle.c_valid.specs.Laws.{FunctionsAreLimited}
use Rattle.c_limited.specs.Laws.{has_bytes}
use Rattle.c_helpers.specs.Simple.{desugared}
use Rattle.c_lowered.specs.Whole.{literals_of}
use Rattle.c_laid.specs.Fits.{LiteralsAreWords, HaveWords}

-- each object of file scope has a word
abbrev pub ObjectsHaveWords : Type 0
ObjectsHaveWords = (u : CUnit) → IsTyped u → HaveWords (text_of u).objects

-- with fewer operators the literals of a text of bytes are words, where those of its functions are within the limits
abbrev pub LiteralsOfTextsAreWords : Type 0
LiteralsOfTextsAreWords = (u : CUnit) → is_small u ≡ true → has_bytes u ≡ true → FunctionsAreLimited (text_of (desugared u)).functions → LiteralsAreWords (literals_of (desugared u))
