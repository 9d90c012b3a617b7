use Rattle.std.proofs.Common.{◌+◌}
use Rattle.c_syntax.specs.View.{stmt_of}
use Rattle.c_lowered.specs.Counts.{stmt_jumps}
use Rattle.c_lower_data.proofs.blocks.block_behind.Goals as goal

pub returns : goal.returns
returns c = λ k h. let n = stmt_jumps (stmt_of c.args.body.now) in c.plus.ensures k (n + 1) h (c.next.ensures n c.statement_jumps_of.ensures)
