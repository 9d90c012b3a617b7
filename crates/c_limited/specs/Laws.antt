-- What the limits of a typed text come to for its runs.
use Rattle.std.specs.Prelude.{◌≡◌, ℕ, ◌+◌, ◌^◌, Bool, true, ◌==◌, nat_lt, List, [], ◌∷◌, if◌then◌else◌}
use Rattle.c_syntax.specs.Plain as plain
use Rattle.c_syntax.specs.Plain.{CExpr, CUnit}
use Rattle.c_types.specs.Census.{unit_sum}
use Rattle.c_types.specs.Limits.{is_small, IsTyped}
use Rattle.c_eval.specs.Text.{text_of}
use Rattle.c_valid.specs.Laws.{TextIsLimited}

-- how many of a list aren't bytes
abbrev pub strange_bytes : List ℕ → ℕ
strange_bytes [] = 0
strange_bytes (c ∷ cs) = (if nat_lt c (2 ^ 8) then 0 else 1) + strange_bytes cs

abbrev pub strange_in : CExpr → ℕ
strange_in (plain.Str at text) = strange_bytes text
strange_in e = 0

-- the string literals of a tree are bytes
abbrev pub has_bytes : CUnit → Bool
has_bytes u = unit_sum (record { expr = λ s e. strange_in e; node = 0; ty = λ tags t. 0; object = λ tags t v. 0 }) u == 0

-- a typed text within the limits has no literal and no object that is too large for a run
abbrev pub TypedTextsAreLimited : Type 0
TypedTextsAreLimited = (u : CUnit) → IsTyped u → is_small u ≡ true → has_bytes u ≡ true → TextIsLimited (text_of u)
