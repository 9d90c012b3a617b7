-- Why a text is no program.
use Rattle.std.specs.Prelude.{◌≡◌, ℕ, List, ◌∷◌, ◌++◌, IsSome, take, drop, slice_get, Contains}
use Rattle.std.specs.List.{AllByRecursion}
use Rattle.std.specs.Option.{option_and_then}
use Rattle.ws_lang.specs.declared.sign.Sign.{Sign}
use Rattle.ws_lang.specs.declared.fault.WsFault.{WsFault}
use Rattle.ws_lang.specs.declared.fault.WsFault.TheVariants.{BadForm, NumberRange, DuplicateLabel, UnknownLabel, Memory}
use Rattle.ws_lang.specs.Instruction.{Label, Instruction, Mark, marks, uses, uses_of, AreDistinct, IsInRange}
use Rattle.ws_lang.specs.Spelling.{sign_of, signs_of, SpellsInstruction, SpellsCode}

-- a sign stands at the position
abbrev pub IsSignAt : List ℕ → ℕ → Type 0
IsSignAt text at = IsSome (option_and_then sign_of (slice_get text at))

-- the text before the position is whole instructions, with numbers in range, and a sign stands there
pub record BeginsAt (text : List ℕ) (at : ℕ) (before : List Instruction) : Type 0 where
  pub spelled : SpellsCode (signs_of (take at text)) before
  pub in_range : AllByRecursion IsInRange before
  pub sign : IsSignAt text at

-- from the position on no front spells an instruction
pub record BadFormAt (text : List ℕ) (at : ℕ) : Type 0 where
  pub before : List Instruction
  pub begins : BeginsAt text at before
  pub formless : (front rest : List Sign) (instruction : Instruction) → signs_of (drop at text) ≡ front ++ rest → SpellsInstruction front instruction → ⊥

-- from the position on a front spells an instruction whose number is out of range
pub record NumberRangeAt (text : List ℕ) (at : ℕ) : Type 0 where
  pub before : List Instruction
  pub begins : BeginsAt text at before
  pub front : List Sign
  pub rest : List Sign
  pub instruction : Instruction
  pub whole : signs_of (drop at text) ≡ front ++ rest
  pub spelled : SpellsInstruction front instruction
  pub outside : IsInRange instruction → ⊥

-- the text is whole instructions, with numbers in range; the one that begins at the position is the first that breaks a rule of labels, if it does
pub record LabelsRightBefore (text : List ℕ) (at : ℕ) (before : List Instruction) (instruction : Instruction) (after : List Instruction) : Type 0 where
  pub begins : BeginsAt text at before
  pub spelled : SpellsCode (signs_of text) (before ++ instruction ∷ after)
  pub in_range : AllByRecursion IsInRange (before ++ instruction ∷ after)
  pub marked_once : AreDistinct (marks before)
  pub marked : AllByRecursion (Contains (marks (before ++ instruction ∷ after))) (uses before)

-- a mark begins there whose label was marked before
pub record DuplicateLabelAt (text : List ℕ) (at : ℕ) : Type 0 where
  pub before : List Instruction
  pub label : Label
  pub after : List Instruction
  pub right : LabelsRightBefore text at before (Mark label) after
  pub twice : Contains (marks before) label

-- an instruction begins there that goes to a label that is marked nowhere
pub record UnknownLabelAt (text : List ℕ) (at : ℕ) : Type 0 where
  pub before : List Instruction
  pub instruction : Instruction
  pub after : List Instruction
  pub right : LabelsRightBefore text at before instruction after
  pub label : Label
  pub goes : Contains (uses_of instruction) label
  pub unmarked : Contains (marks (before ++ instruction ∷ after)) label → ⊥

-- the text is refused for this
abbrev pub IsRefused : List ℕ → WsFault → Type 0
IsRefused text (BadForm at) = BadFormAt text at
IsRefused text (NumberRange at) = NumberRangeAt text at
IsRefused text (DuplicateLabel at) = DuplicateLabelAt text at
IsRefused text (UnknownLabel at) = UnknownLabelAt text at
IsRefused text Memory = Unit {0}
