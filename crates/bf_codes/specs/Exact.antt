-- The exact commands of operations, with no call that makes them.
use Rattle.std.specs.Prelude.{ℕ, ◌<◌, []}
use Rattle.eir_core.specs.declared.ops.Op.{Op}
use Rattle.bf_tape.specs.Piece.{Piece, joined}
use Rattle.bf_ops.specs.Ask.{serve_code, Serves}
use Rattle.bf_ops.specs.OpsCode.{operation_code, operation_cell}
use Rattle.bf_ops.specs.Perform.{Performs}

-- no commands yet, with the head at a cell
abbrev pub start : ℕ → Piece
start h = record { commands = []; cell = h }

-- an operation's commands perform it
abbrev pub OperationsArePerformed : Type 0
OperationsArePerformed = (op : Op) → Performs (start 0) (record { commands = operation_code 0 op; cell = operation_cell 0 op }) op

-- what is asked of the memory is served by the commands that are told of it
abbrev pub MemoryIsServed : Type 0
MemoryIsServed = (p : Piece) → p.cell < 256 → Serves p (joined p (serve_code p.cell) 47)
