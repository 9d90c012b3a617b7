-- The head of a `for` that is no block.
use Rattle.std.proofs.Common.{◌≡◌, sym, ◌∙◌}
use Rattle.c_syntax.specs.View.{stmt_of}
use Rattle.c_syntax.specs.declared.tree.Stmts.{Stmts}
use Rattle.c_syntax.specs.declared.tree.Stmt.{Stmt, Block', If', None', Some', out-Stmt, roll-Stmt, roll-out-Stmt}
use Rattle.c_syntax.specs.declared.tree.Stmt.TheVariants as stmt
use Rattle.c_statements.proofs.KeepLemmas.{no_block}

pub other_block : (x : Stmt) → ((all : Stmts) → x ≡ stmt.Block all → ⊥) → no_block (stmt_of x)
unfolding roll-Stmt out-Stmt denote.Hole.Carrier.roll denote.Hole.Carrier.out
other_block (Block' shape row) h = absurd (h _ (sym (roll-out-Stmt (Block' shape row)) ∙ sym (stmt.rolls-Block _)))
other_block (If' e p t None') h = tt
other_block (If' e p t (Some' q u)) h = tt
other_block _ h = tt
