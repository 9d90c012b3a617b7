-- What begins at each place of a program.
use Rattle.std.specs.Prelude.{◌≡◌, ℕ, ◌+◌, ◌<◌, ◌≤◌, List, length, drop, Option, Some, slice_get, slice_index_or}
use Rattle.bf_lang.specs.declared.command.Command.{Command}
use Rattle.bf_lang.specs.declared.command.Command.TheVariants.{Right as RightCommand, Left as LeftCommand, Plus as PlusCommand, Minus as MinusCommand, Open as OpenCommand, Close as CloseCommand}
use Rattle.bf_lang.specs.declared.fold.Fold.{Fold}
use Rattle.bf_lang.specs.declared.fold.Fold.TheVariants.{Right, Left, Plus, Minus, Clear, Open, Close, Other}
use Rattle.bf_lang.specs.Step.{close_in, open_before}

-- at least one such command, and so many in a row from the place on
pub record IsRow (code : List Command) (k : ℕ) (command : Command) (n : ℕ) : Type 0 where
  pub some : 0 < n
  pub each : (j : ℕ) → j < n → slice_get code (k + j) ≡ Some command

-- the loop `[-]` begins at the place
pub record IsClear (code : List Command) (k : ℕ) : Type 0 where
  pub opens : slice_get code k ≡ Some OpenCommand
  pub counts : slice_get code (k + 1) ≡ Some MinusCommand
  pub closes : slice_get code (k + 2) ≡ Some CloseCommand

-- no bracket
abbrev pub IsPlain : Option Command → Type 0
IsPlain (Some OpenCommand) = ⊥
IsPlain (Some CloseCommand) = ⊥
IsPlain _ = Unit {0}

-- the place past the partner of the `[` at a place
abbrev pub past_partner : List Command → ℕ → ℕ
past_partner code k = k + 1 + close_in 0 (drop (k + 1) code) + 1

-- this begins at the place
abbrev pub IsFold : List Command → ℕ → Fold → Type 0
IsFold code k (Right n) = IsRow code k RightCommand n
IsFold code k (Left n) = IsRow code k LeftCommand n
IsFold code k (Plus n) = IsRow code k PlusCommand n
IsFold code k (Minus n) = IsRow code k MinusCommand n
IsFold code k Clear = IsClear code k
IsFold code k (Open to) = (slice_get code k ≡ Some OpenCommand) × (to ≡ past_partner code k) × (to ≤ length code)
IsFold code k (Close to) = (slice_get code k ≡ Some CloseCommand) × (to ≡ open_before code k 0) × (to ≤ length code)
IsFold code k Other = IsPlain (slice_get code k)

-- the fold at a place of a list, and none past its end
abbrev pub fold_at : List Fold → ℕ → Fold
fold_at folds k = slice_index_or folds k Other

-- a fold for each place, and one for the end
pub record AreFolds (code : List Command) (folds : List Fold) : Type 0 where
  pub count : length folds ≡ length code + 1
  pub each : (k : ℕ) → k < length folds → IsFold code k (fold_at folds k)

-- where a jump leads, from a bracket at a place
abbrev pub target_of : List Command → ℕ → Option Command → ℕ
target_of code k (Some OpenCommand) = past_partner code k
target_of code k (Some CloseCommand) = open_before code k 0
target_of code k _ = k + 1
