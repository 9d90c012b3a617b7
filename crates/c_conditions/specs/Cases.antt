-- The labels of a `switch` in the code, as the definitions have them.
use Rattle.std.specs.Prelude.{◌≡◌, ◌==◌, ℕ, Bool, false, List, [], reverse, Some, None, Ok, Err}
use Rattle.std.specs.List.{list_any}
use Rattle.c_types.specs.Refusals.{Judged, broken}
use Rattle.c_types.specs.Constants.{Constant, Value}
use Rattle.c_types.specs.Operands.{Operand}
use Rattle.c_types.specs.Statements.{CaseLabel, PartJudged, labels_rules, same_label}
use Rattle.c_conditions.specs.declared.labels.Labels.{Labels}

-- a word is among these
abbrev pub has_word : List ℕ → ℕ → Bool
has_word words x = list_any (λ k. x == k) words

-- a constant has a word that is among these
abbrev pub has_case : List ℕ → Constant → Bool
has_case words (Value x) = has_word words x
has_case words _ = false

-- the labels so far are these
pub record AreLabels (b : Labels) (ls : List CaseLabel) : Type 0 where
  pub broken : b.broken ≡ broken (labels_rules [] ls)
  pub default : b.default ≡ list_any (λ other. same_label other.value None) (reverse ls)
  pub words : (a : Operand) → has_case b.words.keys a.constant ≡ list_any (λ other. same_label other.value (Some a)) (reverse ls)

-- the label of a part, if it is one
abbrev pub labels_in : Judged PartJudged → List CaseLabel
labels_in (Ok part) = part.labels
labels_in (Err e) = []
