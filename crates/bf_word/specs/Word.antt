-- A word in three neighbouring cells, lowest byte first, and counters.
use Rattle.std.specs.Prelude.{◌≡◌, ◌<◌, ◌≤◌, ◌⊎◌, ℕ, ◌+◌, ◌-◌, ◌*◌, ◌/◌, ◌%◌, ◌^◌, nat_lt, cond}
use Rattle.bf_tape.specs.Tape.{Tape, get, put}

abbrev pub word_in : Tape → ℕ → ℕ
word_in s w = get s w + 256 * get s (w + 1) + 65536 * get s (w + 2)

-- the byte of each of the three cells
abbrev pub low_byte : ℕ → ℕ
low_byte v = v % 256

abbrev pub mid_byte : ℕ → ℕ
mid_byte v = v / 256 % 256

abbrev pub high_byte : ℕ → ℕ
high_byte v = v / 65536 % 256

-- another word in three cells, and all else as before
abbrev pub with_word : Tape → ℕ → ℕ → Tape
with_word s w v = put (put (put s w (low_byte v)) (w + 1) (mid_byte v)) (w + 2) (high_byte v)

-- the cells to work in are 0
abbrev pub IsClear : Tape → Type 0
IsClear s = (c : ℕ) → 110 ≤ c → c < 174 → get s c ≡ 0

-- two words that share no cell
abbrev pub AreDistinct : ℕ → ℕ → Type 0
AreDistinct v w = (v + 3 ≤ w) ⊎ (w + 3 ≤ v)

-- a cell that is none of a word's
abbrev pub IsOutside : ℕ → ℕ → Type 0
IsOutside c w = (c < w) ⊎ (w + 3 ≤ c)

-- a counter is a word with seven cells behind it that are 0, the last of which tells a borrow
abbrev pub IsCounter : ℕ → Tape → Type 0
IsCounter w s = (c : ℕ) → w + 3 ≤ c → c < w + 10 → get s c ≡ 0

-- no cell of a word is one of a counter's ten
abbrev pub IsApart : ℕ → ℕ → Type 0
IsApart g w = (g + 3 ≤ w) ⊎ (w + 10 ≤ g)

-- a word in place of another one, which becomes 0
abbrev pub carried_word : ℕ → ℕ → Tape → Tape
carried_word from to s = with_word (with_word s to (word_in s from)) from 0

-- a word added to a counter, and cleared
abbrev pub lifted_by : ℕ → ℕ → Tape → Tape
lifted_by w g s = with_word (with_word s g 0) w ((word_in s w + word_in s g) % 2 ^ 24)

-- a word taken from a counter, and cleared; the counter's last cell is 1 where there was not as much
abbrev pub lowered_by : ℕ → ℕ → Tape → Tape
lowered_by w g s = put (with_word (with_word s g 0) w ((word_in s w + (2 ^ 24 - word_in s g)) % 2 ^ 24)) (w + 9) (cond (nat_lt (word_in s w) (word_in s g)) 1 0)

-- one taken from a counter; its last cell is 1 where it was 0
abbrev pub lowered_once : ℕ → Tape → Tape
lowered_once w s = put (with_word s w ((word_in s w + (2 ^ 24 - 1)) % 2 ^ 24)) (w + 9) (cond (nat_lt (word_in s w) 1) 1 0)

-- one added to a counter
abbrev pub lifted_once : ℕ → Tape → Tape
lifted_once w s = with_word s w ((word_in s w + 1) % 2 ^ 24)

-- the number whose bytes are those of another one, each so much more modulo 256
abbrev pub bytes_raised : ℕ → ℕ → ℕ → ℕ → ℕ
bytes_raised v a b c = (low_byte v + a) % 256 + 256 * ((mid_byte v + b) % 256) + 65536 * ((high_byte v + c) % 256)

-- a cell that is none of a counter's ten
abbrev pub IsBeyond : ℕ → ℕ → Type 0
IsBeyond c w = (c < w) ⊎ (w + 10 ≤ c)

-- the difference of two words in the counter among the cells to work in, and its borrow
abbrev pub compared : Tape → ℕ → ℕ → Tape
compared s x y = put (with_word s 114 ((word_in s x + (2 ^ 24 - word_in s y)) % 2 ^ 24)) 123 (cond (nat_lt (word_in s x) (word_in s y)) 1 0)
