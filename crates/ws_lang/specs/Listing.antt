-- For proofs only: the instructions of a text, with the places where they begin.
use Rattle.std.specs.Prelude.{◌≡◌, ℕ, ◌<◌, ◌≤◌, List, length, take, slice_index, slice_index_or}
use Rattle.std.specs.List.{AllByRecursion}
use Rattle.ws_lang.specs.declared.fault.WsFault.{WsFault}
use Rattle.ws_lang.specs.declared.fault.WsFault.TheVariants.{Memory}
use Rattle.ws_lang.specs.Instruction.{Instruction, IsInRange}
use Rattle.ws_lang.specs.Spelling.{signs_of, SpellsCode}
use Rattle.ws_lang.specs.Refusal.{BeginsAt}
use Rattle.ws_lang.specs.Labels.{LabelsRight, LabelsWrong}

-- the text before a place is these instructions, which begin at these places
pub record IsListingTo (text : List ℕ) (at : ℕ) (code : List Instruction) (starts : List ℕ) : Type 0 where
  pub spelled : SpellsCode (signs_of (take at text)) code
  pub in_range : AllByRecursion IsInRange code
  pub count : length starts ≡ length code
  pub few : length code ≤ at
  pub begins : (k : ℕ) → k < length code → BeginsAt text (slice_index starts k) (take k code)

-- the whole text is
pub record IsListing (text : List ℕ) (code : List Instruction) (starts : List ℕ) : Type 0 where
  pub spelled : SpellsCode (signs_of text) code
  pub in_range : AllByRecursion IsInRange code
  pub count : length starts ≡ length code
  pub few : length code ≤ length text
  pub begins : (k : ℕ) → k < length code → BeginsAt text (slice_index starts k) (take k code)

-- the labels of the first instructions are right
abbrev pub AllRight : List Instruction → ℕ → Type 0
AllRight code n = (k : ℕ) (d : Instruction) → k < n → LabelsRight code k (slice_index_or code k d)

-- the labels of the instruction at a place are the first that are wrong
pub record FirstWrong (code : List Instruction) (starts : List ℕ) (fault : WsFault) : Type 0 where
  pub place : ℕ
  pub instruction : Instruction
  pub within : place < length code
  pub there : slice_index_or code place instruction ≡ instruction
  pub before : AllRight code place
  pub wrong : LabelsWrong code place (slice_index starts place) instruction fault

-- the answer of a walk over the instructions
abbrev pub WalkRefused : List Instruction → List ℕ → WsFault → Type 0
WalkRefused code starts Memory = Unit {0}
WalkRefused code starts fault = FirstWrong code starts fault
