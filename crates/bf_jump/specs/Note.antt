-- The digits of a second number, noted beside those of the next choice.
use Rattle.std.specs.Prelude.{◌≡◌, ℕ, zero, suc, ◌+◌, ◌*◌, ◌/◌, ◌%◌, ◌^◌, ◌<◌, ◌≤◌, List, [], ◌++◌}
use Rattle.bf_lang.specs.declared.command.Command.{Command}
use Rattle.bf_tape.specs.Tape.{Tape, get, put}
use Rattle.bf_tape.specs.Piece.{moved}
use Rattle.bf_tape.specs.Code.{clear_code, add_code, move_code}
use Rattle.bf_choice.specs.Choice.{AreFree, aimed}

-- the cell of a digit of the next choice, and that of a noted one, among those behind the words of BP, SP and D
abbrev pub aim_cell : ℕ → ℕ
aim_cell i = 3 * i + 3

abbrev pub note_cell : ℕ → ℕ
note_cell i = 54 + i + 4 * (i / 6)

abbrev pub digit_in : ℕ → ℕ → ℕ
digit_in n i = n / 2 ^ i % 2

-- so many cells of a row, each set to its number
abbrev pub row : (ℕ → ℕ) → (ℕ → ℕ) → ℕ → Tape → Tape
row cell value zero s = s
row cell value (suc d) s = put (row cell value d s) (cell d) (value d)

-- a number noted, the next choice left open, a note dropped
abbrev pub noted : ℕ → ℕ → Tape → Tape
noted d n s = row note_cell (digit_in n) d s

abbrev pub left_open : ℕ → Tape → Tape
left_open d s = row aim_cell (λ i. 0) d s

abbrev pub dropped : ℕ → Tape → Tape
dropped d s = row note_cell (λ i. 0) d s

-- the noted digits added to those of the next choice
abbrev pub taken : ℕ → Tape → Tape
taken zero s = s
taken (suc d) s = moved (taken d s) (note_cell d) (aim_cell d)

-- no digit is noted
abbrev pub IsNoteFree : ℕ → Tape → Type 0
IsNoteFree d s = (i : ℕ) → i < d → get s (note_cell i) ≡ 0

-- where the head is behind as many cells of a row, and the commands of a step for each
abbrev pub cell_at : (ℕ → ℕ) → ℕ → ℕ → ℕ
cell_at cell h zero = h
cell_at cell h (suc d) = cell d

abbrev pub each_code : (ℕ → ℕ → List Command) → (ℕ → ℕ) → ℕ → ℕ → List Command
each_code step cell h zero = []
each_code step cell h (suc d) = each_code step cell h d ++ step (cell_at cell h d) d

abbrev pub note_code : ℕ → ℕ → ℕ → List Command
note_code n h d = each_code (λ k i. add_code k (note_cell i) (digit_in n i)) note_cell h d

abbrev pub open_code : ℕ → ℕ → List Command
open_code h d = each_code (λ k i. clear_code k (aim_cell i)) aim_cell h d

abbrev pub take_code : ℕ → ℕ → List Command
take_code h d = each_code (λ k i. move_code k (note_cell i) (aim_cell i)) note_cell h d

abbrev pub drop_code : ℕ → ℕ → List Command
drop_code h d = each_code (λ k i. clear_code k (note_cell i)) note_cell h d

-- a noted number takes the place of one that was aimed at, and a note that is dropped leaves nothing
pub record NotesAreTaken : Type 0 where
  pub taken_is : (d g n : ℕ) (s : Tape) → d ≤ 14 → IsNoteFree d s → AreFree d s → taken d (left_open d (noted d g (aimed d n s))) ≡ aimed d g s
  pub dropped_is : (d g : ℕ) (s : Tape) → d ≤ 14 → IsNoteFree d s → dropped d (noted d g s) ≡ s
