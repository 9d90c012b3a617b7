use Rattle.std.proofs.Common.{sym, ap, ◌∙◌}
use Rattle.c_syntax.specs.Plain as plain
use Rattle.c_syntax.specs.View.{stmt_of}
use Rattle.c_syntax.specs.declared.tree.Stmt.{Stmt}
use Rattle.c_statements.proofs.TreeLemmas.{block_made}
use Rattle.c_statements.proofs.HeadLemmas.{other_block}
use Rattle.c_helpers.specs.Fewer as fewer
use Rattle.c_fewer_parts.proofs.GoingLemmas.{made}
use Rattle.c_fewer_functions.proofs.BodyLemmas.{body_other}
use Rattle.c_fewer_functions.proofs.bodies.fewer_in_body.Goals as goal

pub fewer_in_all-requires : goal.fewer_in_all-requires
fewer_in_all-requires c =
    c.requires

pub fewer_in-requires : goal.fewer_in-requires
fewer_in-requires c =
    c.requires

pub returns-in_ok-trees-in-Block-clause-tree : goal.returns-in_ok-trees-in-Block-clause-tree
returns-in_ok-trees-in-Block-clause-tree c = λ s stands.
    c.block.ensures ∙ (ap plain.Block (c.in_ok-trees-in-Block.ensures.tree s stands) ∙ ap (fewer.fewer_in_body s) (sym (ap (λ (x : Stmt). stmt_of x) c.in-Block.is ∙ block_made c.in-Block.all)))

pub returns-in_ok-trees-in-Block-clause-goes : goal.returns-in_ok-trees-in-Block-clause-goes
returns-in_ok-trees-in-Block-clause-goes c =
    c.in_ok-trees-in-Block.ensures.goes

pub returns-in_default : goal.returns-in_default
returns-in_default c =
    record {
      tree = λ s stands. made c.fewer_in.result (fewer.fewer_in s (stmt_of c.args.body.now)) (fewer.fewer_in_body s (stmt_of c.args.body.now)) (body_other s (stmt_of c.args.body.now) (other_block c.args.body.now c.in_default.not-Block)) (c.fewer_in.ensures.tree s stands);
      goes = c.fewer_in.ensures.goes;
    }
