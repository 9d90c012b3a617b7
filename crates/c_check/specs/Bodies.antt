-- Bodies of functions.
use Rattle.std.specs.Prelude.{Option, Some, None}
use Rattle.c_syntax.specs.Plain as tree
use Rattle.c_syntax.specs.Plain.{CStmt, CStmts}

-- the statements of a block
abbrev pub block_in : CStmt → Option CStmts
block_in (tree.Block all) = Some all
block_in _ = None
