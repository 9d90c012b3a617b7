-- The commands of the pieces on words. `h` is the cell at which the head is before them.
use Rattle.std.specs.Prelude.{ℕ, ◌+◌, ◌-◌, ◌/◌, ◌%◌, List, ◌++◌}
use Rattle.bf_lang.specs.declared.command.Command.{Command}
use Rattle.bf_tape.specs.Code.{goto_code, clear_code, add_code, move_code, drain_code, dup_code}
use Rattle.bf_word.specs.Steps.{lower_0, lower_1, lower_2, lift_0, lift_1, lift_2, count_code}

-- byte by byte; they end at the spare cell, at the highest byte of the word that goes, and at that of the word that is set
abbrev pub dup_word_code : ℕ → ℕ → ℕ → ℕ → List Command
dup_word_code h from to spare = dup_code h from to spare ++ dup_code spare (from + 1) (to + 1) spare ++ dup_code spare (from + 2) (to + 2) spare

abbrev pub move_word_code : ℕ → ℕ → ℕ → List Command
move_word_code h from to = move_code h from to ++ move_code from (from + 1) (to + 1) ++ move_code (from + 1) (from + 2) (to + 2)

abbrev pub drain_word_code : ℕ → ℕ → ℕ → List Command
drain_word_code h from to = drain_code h from to ++ drain_code from (from + 1) (to + 1) ++ drain_code (from + 1) (from + 2) (to + 2)

abbrev pub clear_word_code : ℕ → ℕ → List Command
clear_word_code h w = clear_code h w ++ clear_code w (w + 1) ++ clear_code (w + 1) (w + 2)

abbrev pub set_code : ℕ → ℕ → ℕ → List Command
set_code h w n = clear_code h w ++ add_code w w (n % 256) ++ clear_code w (w + 1) ++ add_code (w + 1) (w + 1) (n / 256 % 256) ++ clear_code (w + 1) (w + 2) ++ add_code (w + 2) (w + 2) (n / 65536 % 256)

-- a counter more and less by a word, ending at the word's highest byte, and less and more by one, ending at its lowest
abbrev pub lift_code : ℕ → ℕ → ℕ → List Command
lift_code h w g = count_code h w g lift_0 lift_1 lift_2

abbrev pub lower_code : ℕ → ℕ → ℕ → List Command
lower_code h w g = count_code h w g lower_0 lower_1 lower_2

abbrev pub once_code : ℕ → ℕ → List Command
once_code h w = goto_code h w ++ lower_0

abbrev pub raise_code : ℕ → ℕ → List Command
raise_code h w = goto_code h w ++ lift_0

-- the bytes of a word so much more, ending at the highest
abbrev pub add_bytes_code : ℕ → ℕ → ℕ → ℕ → ℕ → List Command
add_bytes_code h w a b c = add_code h w a ++ add_code w (w + 1) b ++ add_code (w + 1) (w + 2) c

-- what takes a byte to 0 modulo 256
abbrev pub opposite : ℕ → ℕ
opposite b = (256 - b) % 256

-- whether a counter is a constant: each byte less by the constant's, one less of what is left, its borrow to the flag, and all of it back
abbrev pub equals_code : ℕ → ℕ → ℕ → ℕ → List Command
equals_code h w n flag =
    add_bytes_code h w (opposite (n % 256)) (opposite (n / 256 % 256)) (opposite (n / 65536 % 256)) ++ once_code (w + 2) w ++ move_code w (w + 9) flag ++ raise_code (w + 9) w
    ++ add_bytes_code w w (n % 256) (n / 256 % 256) (n / 65536 % 256)

-- a difference in the cells to work in, and what is told of it, ending at the borrow
abbrev pub subtract_code : ℕ → ℕ → ℕ → List Command
subtract_code h a b = dup_word_code h a 114 113 ++ dup_word_code 113 b 110 113 ++ lower_code 113 114 110

abbrev pub less_code : ℕ → ℕ → ℕ → ℕ → List Command
less_code h a b flag = subtract_code h a b ++ clear_word_code 112 114 ++ clear_code 116 flag ++ move_code flag 123 flag

abbrev pub equal_code : ℕ → ℕ → ℕ → ℕ → List Command
equal_code h a b flag = subtract_code h a b ++ clear_code 112 123 ++ once_code 123 114 ++ clear_word_code 114 114 ++ clear_code 116 flag ++ move_code flag 123 flag

-- a sum and a difference in place, and a word turned over or one less, through the counter among the cells to work in, ending behind it
abbrev pub sum_word_code : ℕ → ℕ → ℕ → List Command
sum_word_code h to from = dup_word_code h from 110 113 ++ move_word_code 113 to 114 ++ lift_code (to + 2) 114 110 ++ move_word_code 112 114 to

abbrev pub difference_word_code : ℕ → ℕ → ℕ → List Command
difference_word_code h to from = dup_word_code h from 110 113 ++ move_word_code 113 to 114 ++ lower_code (to + 2) 114 110 ++ clear_code 112 123 ++ move_word_code 123 114 to

abbrev pub flip_code : ℕ → ℕ → List Command
flip_code h w = move_word_code h w 114 ++ set_code (w + 2) w 16777215 ++ drain_word_code (w + 2) 114 w

abbrev pub dec_code : ℕ → ℕ → List Command
dec_code h w = move_word_code h w 114 ++ once_code (w + 2) 114 ++ clear_code 114 123 ++ move_word_code 123 114 w
