-- For proofs only: where labels are marked.
use Rattle.std.specs.Prelude.{◌≡◌, ◌≢◌, ℕ, suc, Bool, cond, List, [], ◌∷◌, Option, Some, None, Vec, IsSome}
use Rattle.std.specs.declared.alloc.Global.{Global}
use Rattle.std.specs.List.{AllByRecursion}
use Rattle.std.specs.Map.{lookup}
use Rattle.std.specs.Option.{option_map}
use Rattle.ws_lang.specs.declared.fault.WsFault.{WsFault}
use Rattle.ws_lang.specs.declared.fault.WsFault.TheVariants.{DuplicateLabel, UnknownLabel, Memory}
use Rattle.ws_lang.specs.Instruction.{Label, Instruction, marks_of, uses_of}
use Rattle.ws_lang.specs.Step.{is_same_label, is_mark_of, place_of}

-- the first place that marks the label, if there is one
abbrev pub mark_of : Label → List Instruction → Option ℕ
mark_of label [] = None
mark_of label (instruction ∷ code) = cond (is_mark_of label instruction) (Some 0) (option_map suc (mark_of label code))

-- the place that an instruction of the code goes to, or 0
abbrev pub first_place : List Label → List Instruction → ℕ
first_place [] code = 0
first_place (label ∷ labels) code = place_of label code

abbrev pub target_of : List Instruction → Instruction → ℕ
target_of code instruction = first_place (uses_of instruction) code

-- what a table has at a label
abbrev pub found_with : Label → List (Vec Bool Global × ℕ) → Option ℕ
found_with label entries = lookup (λ key. is_same_label label key.items) entries

abbrev pub found_at : Vec Bool Global → List (Vec Bool Global × ℕ) → Option ℕ
found_at label entries = found_with label.items entries

-- the table has the first place of each label that is marked
abbrev pub HasMarks : List (Vec Bool Global × ℕ) → List Instruction → Type 0
HasMarks entries code = (label : Vec Bool Global) → found_at label entries ≡ mark_of label.items code

-- the instruction's labels are right: what it marks is marked there first, what it goes to is marked
pub record LabelsRight (code : List Instruction) (place : ℕ) (instruction : Instruction) : Type 0 where
  pub first : AllByRecursion (λ label. mark_of label code ≡ Some place) (marks_of instruction)
  pub known : AllByRecursion (λ label. IsSome (mark_of label code)) (uses_of instruction)

-- one of its labels is not, and the fault has the place of its first byte
abbrev pub LabelsWrong : List Instruction → ℕ → ℕ → Instruction → WsFault → Type 0
LabelsWrong code place start instruction (DuplicateLabel at) = (at ≡ start) × ((label : Label) × (marks_of instruction ≡ label ∷ []) × (mark_of label code ≢ Some place))
LabelsWrong code place start instruction (UnknownLabel at) = (at ≡ start) × ((label : Label) × (uses_of instruction ≡ label ∷ []) × (mark_of label code ≡ None))
LabelsWrong code place start instruction Memory = Unit {0}
LabelsWrong code place start instruction _ = ⊥
