-- The law of flat code.
use Rattle.std.specs.Prelude.{◌≡◌, ℕ, ◌+◌, List, Some}
use Rattle.c_syntax.specs.Plain.{CUnit}
use Rattle.c_eval.specs.Text.{text_of}
use Rattle.c_eval.specs.Meaning.{own_rules, opening, meaning_of}
use Rattle.c_code.specs.Machine.{program_of, run_code, shown}

-- for each text, input and fuel there is a count of instructions from which on the run of its code isn't going any more, and shows what the text means
abbrev pub LawOfCode : Type 0
LawOfCode =
    (u : CUnit) (input : List ℕ) (fuel : ℕ) →
    (k : ℕ) × ((n : ℕ) → shown (run_code (program_of (own_rules u) (text_of u) input) (k + n) (opening (text_of u) fuel)) ≡ Some (meaning_of u input fuel))
