-- The whole tape where an operation begins.
use Rattle.std.specs.Prelude.{ℕ, zero, suc, ◌-◌, ◌/◌, ◌%◌, ◌^◌, nat_lt, cond, List}
use Rattle.bf_lang.specs.declared.command.Command.{Command}
use Rattle.bf_tape.specs.Tape.{Tape}
use Rattle.bf_tape.specs.Does.{Does}
use Rattle.bf_columns.specs.Sheet.{sheet}
use Rattle.bf_columns.specs.Board.{board, Acts}

-- a byte of a word, of which byte 0 is the lowest
abbrev pub byte_of : ℕ → ℕ → ℕ
byte_of w zero = w % 256
byte_of w (suc i) = byte_of (w / 256) i

-- a half record: a mark place, and the bytes of a word
abbrev pub half_record : ℕ → ℕ → ℕ
half_record w zero = 0
half_record w (suc i) = byte_of w i

-- a record of eight cells holds the words k and 2^24 - 1 - k; there are 2^23 of them
abbrev pub record_cell : (ℕ → ℕ) → ℕ → ℕ → ℕ
record_cell m k i = cond (nat_lt k (2 ^ 23)) (cond (nat_lt i 4) (half_record (m k) i) (half_record (m (2 ^ 24 - 1 - k)) (i - 4))) 0

-- the memory from cell 172 on, with nothing before it
abbrev pub ground : (ℕ → ℕ) → ℕ → List ℕ → Tape
ground m taken output = record { base = 0; cells = λ q. cond (nat_lt q 172) 0 (record_cell m ((q - 172) / 8) ((q - 172) % 8)); taken = taken; output = output }

-- registers by their lanes, memory by its addresses
abbrev pub rest : (ℕ → ℕ) → (ℕ → ℕ) → ℕ → List ℕ → Tape
rest r m taken output = sheet (ground m taken output) (board r)

-- the law: what acts on words leads from one such tape to another
abbrev pub WordsActAtRest : Type 0
WordsActAtRest =
    (input : List ℕ) (code : List Command) (r r' m : ℕ → ℕ) (most taken : ℕ) (output : List ℕ) → Acts code r r' most
    → Does input code 135 (rest r m taken output) 135 (rest r' m taken output) most
