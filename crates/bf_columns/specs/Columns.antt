-- Loops over columns.
use Rattle.std.specs.Prelude.{◌≡◌, ◌≢◌, ℕ, suc, ◌+◌, ◌-◌, ◌*◌, ◌<◌, List, ◌++◌}
use Rattle.bf_lang.specs.declared.command.Command.{Command}
use Rattle.bf_lang.specs.declared.command.Command.TheVariants.{Right, Left}
use Rattle.bf_lang.specs.Balance.{IsBalanced}
use Rattle.bf_tape.specs.Tape.{Tape, get}
use Rattle.bf_tape.specs.Does.{Does, loop}
use Rattle.bf_tape.specs.Code.{many}

abbrev pub right10 : List Command
right10 = many 10 Right

abbrev pub left10 : List Command
left10 = many 10 Left

-- a body at the guide of each column, from the rightmost on: from home to the guide place left of the columns
abbrev pub leftwards_code : List Command → List Command
leftwards_code body = left10 ++ loop (body ++ left10)

-- home again
abbrev pub homewards_code : List Command
homewards_code = right10 ++ loop right10

-- the guide of a column, so many of them being there; the one past the last is the guide place left of them
abbrev pub guide : ℕ → ℕ → ℕ → ℕ
guide stop n j = stop + 10 * (n - j)

-- tapes by how many columns are done: a body leads from each to the next one, and the guides stand where the loop looks for them
pub record Columns (input : List ℕ) (body : List Command) (stop n most : ℕ) (at : ℕ → Tape) : Type 0 where
  pub balanced : IsBalanced body
  pub on : (j : ℕ) → j < n → get (at j) (guide stop n j) ≢ 0
  pub over : get (at n) stop ≡ 0
  pub does : (j : ℕ) → j < n → Does input body (guide stop n j) (at j) (guide stop n j) (at (suc j)) most

-- the law of column loops
abbrev pub ColumnsAreDone : Type 0
ColumnsAreDone = (input : List ℕ) (body : List Command) (stop n most : ℕ) (at : ℕ → Tape) → Columns input body stop n most at
    → Does input (leftwards_code body) (stop + 10 * (n + 1)) (at 0) stop (at n) (n * (most + 11) + 11)

-- guides that lead home
pub record Guides (s : Tape) (stop n : ℕ) : Type 0 where
  pub on : (k : ℕ) → k < n → get s (stop + 10 * (k + 1)) ≢ 0
  pub home : get s (stop + 10 * (n + 1)) ≡ 0

abbrev pub GuidesLeadHome : Type 0
GuidesLeadHome = (input : List ℕ) (s : Tape) (stop n : ℕ) → Guides s stop n → Does input homewards_code stop s (stop + 10 * (n + 1)) s (11 * (n + 1))
