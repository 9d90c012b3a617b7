-- Where the labels of a program are.
use Rattle.std.specs.Prelude.{◌≡◌, ℕ, List, Some, Contains, slice_get}
use Rattle.ws_lang.specs.Instruction.{Label, Instruction, Mark, uses}
use Rattle.ws_lang.specs.Step.{place_of}

-- each label that is gone to is marked at its place, and no label is marked at another
pub record HasOnePlaceEach (code : List Instruction) : Type 0 where
  pub there : (label : Label) → Contains (uses code) label → slice_get code (place_of label code) ≡ Some (Mark label)
  pub only : (label : Label) (k : ℕ) → slice_get code k ≡ Some (Mark label) → k ≡ place_of label code
