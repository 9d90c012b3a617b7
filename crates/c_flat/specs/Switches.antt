-- A `switch` behind its value.
use Rattle.std.specs.Prelude.{ℕ, ◌+◌, List, [], ◌∷◌, ◌++◌, length}
use Rattle.c_eval.specs.State.{Cell}
use Rattle.c_eval.specs.Environment.{Default}
use Rattle.c_code.specs.Code.{Instruction, Enter, Leave, Switch, Done, Label, label_place, case_jumps}

-- the jumps to labels, and to the default or past so many instructions of the parts
abbrev pub jumps_to : List Label → ℕ → List Instruction
jumps_to labels past = case_jumps labels (label_place Default labels past)

-- the parts with the jumps to their labels
abbrev pub switch_code : List Label → List Instruction → List (List Cell) → ℕ → List Instruction
switch_code labels body cells count =
    Switch (length (jumps_to labels (length body)) + length body + 3) ∷ Enter cells count ∷ (jumps_to labels (length body) ++ (body ++ Leave ∷ Done ∷ []))
