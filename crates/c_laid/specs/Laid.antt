-- Where code stands in the program of a text.
use Rattle.std.specs.Prelude.{◌≡◌, ℕ, ◌+◌, ◌≤◌, true, List, Some, codes}
use Rattle.std.specs.Str.{bytes_eq}
use Rattle.c_syntax.specs.Plain.{CUnit}
use Rattle.c_eval.specs.Text.{Definition, text_of, function_named}
use Rattle.c_place.specs.Code.{jumps}
use Rattle.c_place.specs.Place.{front, Stands}
use Rattle.c_lowered.specs.Whole.{function_jumps, function_code, frames, linking_of, opening_code, whole_code, lowered}

-- the first block of a function in the program of a text
abbrev pub entry_of : CUnit → List ℕ → ℕ
entry_of u name = (linking_of u).entry name

pub record CodeIsLaidIn (u : CUnit) : Type 0 where
  pub start : (lowered u).start ≡ 0
  pub opening : Stands (lowered u) (front 0) (opening_code (frames u) (entry_of u (codes "main")))
  -- a function of the text stands there, and ends before the program does
  pub function : (name : List ℕ) (f : Definition) → function_named (text_of u) name ≡ Some f → Stands (lowered u) (front (entry_of u name)) (function_code (linking_of u) (text_of u).names f (entry_of u name))
  pub within : (name : List ℕ) (f : Definition) → function_named (text_of u) name ≡ Some f → entry_of u name + function_jumps f ≤ jumps (whole_code u)
  -- what is no function of it has no block of its own
  pub entries : (name : List ℕ) → entry_of u name ≤ jumps (whole_code u)
  pub apart : (name other : List ℕ) → 1 ≤ entry_of u name → entry_of u name ≡ entry_of u other → bytes_eq name other ≡ true

abbrev pub CodeIsLaid : Type 0
CodeIsLaid = (u : CUnit) → CodeIsLaidIn u
