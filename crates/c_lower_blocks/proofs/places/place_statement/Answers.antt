use Rattle.std.proofs.Common.{sym, subst}
use Rattle.std.specs.Prelude.{IfOk}
use Rattle.c_syntax.specs.View.{stmt_of}
use Rattle.c_syntax.specs.declared.tree.Stmt.{Stmt}
use Rattle.c_types.specs.Census.{scope_behind}
use Rattle.c_eval.specs.Environment.{objects_in}
use Rattle.c_applied.proofs.LeadsLemmas.{nothing}
use Rattle.c_lower_blocks.specs.Laid.{Places}
use Rattle.c_lower_blocks.proofs.LaidLemmas.{declares_none, lay_nothing}
use Rattle.c_lower_blocks.proofs.places.place_statement.Goals as goal

pub returns-in-Local-clause-places : goal.returns-in-Local-clause-places
returns-in-Local-clause-places c =
    subst (λ (x : Stmt). IfOk c.place_object.result (λ behind. Places c.args.out.now c.place_object.new.out c.args.here.now c.place_object.new.here c.args.free behind (λ s. objects_in s (stmt_of x)) (λ s. scope_behind s (stmt_of x)))) (sym c.in-Local.is)
    c.place_object.ensures.places

pub returns-in-Local-clause-still : goal.returns-in-Local-clause-still
returns-in-Local-clause-still c = c.place_object.ensures.still

pub returns-in_default-clause-places : goal.returns-in_default-clause-places
returns-in_default-clause-places c = lay_nothing c.args.out.now c.args.here.now c.args.free c.args.t.now (declares_none c.args.t.now c.in_default.not-Local) c.requires

pub returns-in_default-clause-still : goal.returns-in_default-clause-still
returns-in_default-clause-still c = nothing c.args.out.now
