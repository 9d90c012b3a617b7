-- A load and a store on the whole tape.
use Rattle.std.specs.Prelude.{ℕ, ◌+◌, ◌*◌, ◌^◌, ◌<◌, ◌≡◌, List, ◌++◌}
use Rattle.bf_lang.specs.declared.command.Command.{Command}
use Rattle.bf_tape.specs.Tape.{set_cell}
use Rattle.bf_tape.specs.Does.{Does}
use Rattle.bf_tape.specs.Code.{goto_code}
use Rattle.bf_columns.specs.Near.{near, near_code}
use Rattle.bf_columns.specs.Rest.{rest}
use Rattle.bf_trail.specs.Nest.{trail}
use Rattle.bf_trail.specs.Lay.{trail_code}
use Rattle.bf_trail.specs.Load.{load_code}
use Rattle.bf_trail.specs.Store.{store_code}

-- from home to home: the word at the address in lane x goes to lane y
abbrev pub fetch_code : List Command
fetch_code = near_code ++ trail_code ++ goto_code 135 trail ++ load_code ++ goto_code trail 135

-- the law: lane x is 0 afterwards, and all else stays
abbrev pub WordsAreFetched : Type 0
WordsAreFetched =
    (input : List ℕ) (r m : ℕ → ℕ) (taken : ℕ) (output : List ℕ) → ((l : ℕ) → r l < 2 ^ 24) → ((k : ℕ) → m k < 2 ^ 24) → r 6 ≡ 0
    → Does input fetch_code 135 (rest r m taken output) 135 (rest (set_cell (set_cell r 3 0) 6 (m (r 3))) m taken output) (2 ^ 19 * (near (r 3) + 1))

-- from home to home: the word in lane y goes to the address in lane x
abbrev pub bring_code : List Command
bring_code = near_code ++ trail_code ++ goto_code 135 trail ++ store_code ++ goto_code trail 135

-- the law: both lanes are 0 afterwards, and all else stays
abbrev pub WordsAreBrought : Type 0
WordsAreBrought =
    (input : List ℕ) (r m : ℕ → ℕ) (taken : ℕ) (output : List ℕ) → ((l : ℕ) → r l < 2 ^ 24)
    → Does input bring_code 135 (rest r m taken output) 135 (rest (set_cell (set_cell r 3 0) 6 0) (set_cell m (r 3) (r 6)) taken output) (2 ^ 19 * (near (r 3) + 1))
