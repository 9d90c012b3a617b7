-- What functions with fewer operators count, by what they counted.
use Rattle.std.specs.Prelude.{◌≡◌, ℕ, suc, ◌+◌, ◌≤◌, Bool, List, length, Some}
use Rattle.c_syntax.specs.Plain.{CUnit}
use Rattle.c_types.specs.Types.{words_of}
use Rattle.c_types.specs.Census.{Tally}
use Rattle.c_types.specs.Limits.{IsTyped}
use Rattle.c_eval.specs.Environment.{Environment}
use Rattle.c_eval.specs.Text.{Definition, text_of, function_named}
use Rattle.c_helpers.specs.Simple.{charge_in}
use Rattle.c_stated.specs.Statements.{stmt_need}
use Rattle.c_fewer_types.specs.Standing.{IsTextName}
use Rattle.c_fewer_names.specs.FewerKnownLaws.{NamesAreOfText}
use Rattle.c_fewer_calls.specs.Standing.{FunctionStands}

-- the words of objects
abbrev pub local_tally : Tally
local_tally = record { expr = λ s e. 0; node = 0; ty = λ tags t. 0; object = λ tags t v. words_of tags t }

-- the frame of a function with fewer operators, the block to return to, its parameters and the words that its body wants, is at most the charge of a call of it
abbrev pub FramesFitCharges : Type 0
FramesFitCharges =
    (u : CUnit) (test reached : List ℕ → Bool) (name : List ℕ) (f g : Definition) (site : Environment) → IsTyped u → IsTextName name → NamesAreOfText f.scope → function_named (text_of u) name ≡ Some f → FunctionStands test reached f g → site.scope ≡ g.scope
    → suc (length g.params) + stmt_need g.body site ≤ charge_in u name
