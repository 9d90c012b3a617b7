-- The record of an address, and which half of it.
use Rattle.std.specs.Prelude.{◌≡◌, ℕ, ◌-◌, ◌^◌, ◌<◌, nat_lt, cond, List, [], ◌∷◌, ◌++◌}
use Rattle.bf_lang.specs.declared.command.Command.{Command}
use Rattle.bf_lang.specs.declared.command.Command.TheVariants.{Plus, Minus}
use Rattle.bf_tape.specs.Tape.{Tape, get, put, set_cell}
use Rattle.bf_tape.specs.Does.{Does, loop}
use Rattle.bf_tape.specs.Code.{goto_code}
use Rattle.bf_columns.specs.Columns.{homewards_code}
use Rattle.bf_columns.specs.Text.{Text, spelled}
use Rattle.bf_columns.specs.Text.Text.{Done, Go, Up, Down, While}
use Rattle.bf_columns.specs.Bodies.{ups, moves, home}
use Rattle.bf_columns.specs.Sheet.{sheet}
use Rattle.bf_columns.specs.Worked.{body_of}
use Rattle.bf_columns.specs.Board.{board}
use Rattle.bf_columns.specs.Told.{homewards_by, away_code}

-- addresses from 2^23 on are counted from the last one down
abbrev pub near : ℕ → ℕ
near a = cond (nat_lt a (2 ^ 23)) a (2 ^ 24 - 1 - a)

abbrev pub side : ℕ → ℕ
side a = cond (nat_lt a (2 ^ 23)) 0 1

-- x and z of column 11, z left of it, and the guide: the last z becomes 1 where x is 2 or 3
abbrev pub top_cells : List ℕ
top_cells = 13 ∷ 19 ∷ 9 ∷ 15 ∷ []

abbrev pub top_text : Text
top_text = Go 0 (While (Down (Go 1 (Up (Go 0 (While (Down (Go 1 (Up (Go 2 (Up (moves 0 1 Up (Go 0 Done))))))) (Go 0 Done)))))) (moves 1 0 Up (Go 3 Done)))

-- x of a column becomes 3 less x, with the guide as the cell to spare
abbrev pub flip_text : Text
flip_text = moves 2 6 Up (Go 6 (Down (moves 6 2 Down (Go 6 (Up (Go 2 (ups 3 home)))))))

-- each digit flipped, and the side in cell 168
abbrev pub flip_code : List Command
flip_code = goto_code 9 5 ++ homewards_by (body_of 0 1 flip_text) ++ goto_code 135 168 ++ (Plus ∷ []) ++ goto_code 168 135 ++ away_code ++ goto_code 5 9

abbrev pub near_code : List Command
near_code = goto_code 135 15 ++ spelled top_cells 3 top_text ++ goto_code 15 9 ++ loop (Minus ∷ flip_code) ++ goto_code 9 5 ++ homewards_code

-- the law: from the address in lane x, the record's number there and the side in its cell
abbrev pub NearIsFound : Type 0
NearIsFound =
    (input : List ℕ) (t : Tape) (w : ℕ → ℕ) → get t 135 ≡ 0 → get t 168 ≡ 0 → ((l : ℕ) → w l < 2 ^ 24)
    → Does input near_code 135 (sheet t (board w)) 135 (sheet (put t 168 (side (w 3))) (board (set_cell w 3 (near (w 3))))) (2 ^ 11)
