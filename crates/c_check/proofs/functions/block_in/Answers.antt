use Rattle.std.proofs.Common.{Some, sym, ap, ◌∙◌}
use Rattle.c_syntax.specs.View.{stmt_of}
use Rattle.c_syntax.specs.declared.tree.Stmt.{Stmt}
use Rattle.c_statements.proofs.TreeLemmas.{block_made}
use Rattle.c_check.specs.Bodies.{block_in}
use Rattle.c_check.proofs.BodyLemmas.{other_than_block}
use Rattle.c_check.proofs.functions.block_in.Goals as goal

pub returns-in-Block : goal.returns-in-Block
returns-in-Block c = sym (ap (λ (x : Stmt). block_in (stmt_of x)) c.in-Block.is ∙ ap block_in (block_made c.in-Block.all))

pub returns-in_default : goal.returns-in_default
returns-in_default c = other_than_block c.args.body.now c.in_default.not-Block
