-- What the fields of structs stand for.
use Rattle.std.specs.Prelude.{◌≤◌, ◌^◌, List, length}
use Rattle.bf_lang.specs.declared.command.Command.{Command}
use Rattle.bf_lang.specs.Balance.{IsBalanced}

-- the brackets are closed in order, and the commands are few enough
pub record IsProgram (code : List Command) : Type 0 where
  pub balanced : IsBalanced code
  pub few : length code ≤ 2 ^ 29
