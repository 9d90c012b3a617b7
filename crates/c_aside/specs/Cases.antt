-- The labels of a `switch`, and the jumps to them.
use Rattle.std.specs.Prelude.{◌≡◌, ℕ, ◌+◌, List, [], length, map}
use Rattle.std.specs.Option.{option_map}
use Rattle.word24.specs.Word.{number_of}
use Rattle.c_code.specs.Code as code
use Rattle.c_code.specs.Code.{case_jump}
use Rattle.c_emitted.specs.declared.emitter.Emitter.{Emitter}
use Rattle.c_emitted.specs.Emits.{Emits}
use Rattle.c_aside.specs.declared.cases.Label.{Label}

abbrev pub label_of : Label → code.Label
label_of l = record { word = option_map number_of l.word; at = l.at }

abbrev pub labels_of : List Label → List code.Label
labels_of ls = map label_of ls

-- where so many instructions are left of all jumps, that of a label is emitted, and so many are left behind it
pub record JumpsTo (a b : Emitter) (l : Label) (left behind : ℕ) : Type 0 where
  pub emits : Emits a b (case_jump (label_of l).word (l.at + behind)) []
  pub left_behind : behind + length (case_jump (label_of l).word (l.at + behind)) ≡ left
