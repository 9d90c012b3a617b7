-- What the machine's answers are.
use Rattle.std.specs.Prelude.{ℕ, Bool, true, false, Result, Ok, Err}
use Rattle.word24.specs.declared.word.Word.{Word}
use Rattle.word24.specs.Word.{number_of}
use Rattle.c_syntax.specs.declared.tree.BinOp.{BinOp}
use Rattle.c_syntax.specs.declared.tree.BinOp.TheVariants as binary
use Rattle.c_store.specs.declared.act.Act.{Act}

-- the number of a word, or the act
abbrev pub numbered : Result Word Act → Result ℕ Act
numbered (Ok w) = Ok (number_of w)
numbered (Err act) = Err act

-- `&&` and `||`, which are no operators on two values
abbrev pub is_logical : BinOp → Bool
is_logical binary.Or = true
is_logical binary.And = true
is_logical op = false
