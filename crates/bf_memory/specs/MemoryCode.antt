-- The commands of loads and stores. `h` is the cell at which the head is before them.
use Rattle.std.specs.Prelude.{ℕ, ◌+◌, true, false, List, ◌++◌}
use Rattle.bf_lang.specs.declared.command.Command.{Command}
use Rattle.bf_tape.specs.Code.{goto_code, clear_code, add_code, move_code, drain_code, dup_code, if_code, times_code, walk_code}
use Rattle.bf_word.specs.WordCode.{dup_word_code, move_word_code, drain_word_code, clear_word_code, set_code, lower_code, once_code}

-- one turn of the walk out, and of the walk home
abbrev pub outward_code : List Command
outward_code =
    add_code 0 14 255 ++ move_word_code 14 0 22 ++ move_word_code 2 10 32 ++ move_code 12 13 35 ++ once_code 13 22 ++ add_code 22 36 1 ++ drain_code 36 31 36 ++ add_code 31 37 1 ++ goto_code 37 0

abbrev pub homeward_code : List Command
homeward_code = clear_code 0 37 ++ move_word_code 37 32 10 ++ goto_code 34 0

-- out, the one piece or the other at the record, and home, ending at cell 151
abbrev pub access_code : ℕ → List Command → List Command → List Command
access_code h high low = add_code h 150 1 ++ walk_code 14 14 22 true outward_code ++ clear_word_code 14 0 ++ if_code 2 13 3 high low ++ walk_code 25 37 22 false homeward_code

-- an address turned over
abbrev pub over_code : List Command
over_code = add_code 123 149 1 ++ move_word_code 149 136 114 ++ set_code 138 136 16777215 ++ drain_word_code 138 114 136 ++ goto_code 116 123

-- an address brought to record -1, ending at cell 123
abbrev pub seat_code : ℕ → ℕ → List Command
seat_code h addr =
    add_code h 116 127 ++ dup_code 116 (addr + 2) 112 113 ++ lower_code 113 114 110 ++ clear_word_code 112 114 ++ dup_word_code 116 addr 136 113 ++ times_code 113 123 over_code

-- at a record: a word copied to the value, and the value moved to a word
abbrev pub fetch_code : ℕ → List Command
fetch_code word = dup_word_code 0 word 10 4 ++ goto_code 4 0

abbrev pub keep_code : ℕ → List Command
keep_code word = clear_word_code 0 word ++ move_word_code (word + 2) 10 word ++ goto_code 12 0

-- a load, ending at cell 148, and a store, ending at cell 151
abbrev pub load_code : ℕ → ℕ → ℕ → List Command
load_code h addr dst = seat_code h addr ++ access_code 123 (fetch_code 19) (fetch_code 16) ++ clear_word_code 151 dst ++ move_word_code (dst + 2) 146 dst

abbrev pub store_code : ℕ → ℕ → ℕ → List Command
store_code h addr src = seat_code h addr ++ dup_word_code 123 src 146 113 ++ access_code 113 (keep_code 19) (keep_code 16)
