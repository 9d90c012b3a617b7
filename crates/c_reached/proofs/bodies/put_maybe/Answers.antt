use Rattle.std.proofs.Common.{Option, sym, subst}
use Rattle.std.specs.Prelude.{OnOk}
use Rattle.c_syntax.specs.View.{maybe_stmt}
use Rattle.c_syntax.specs.declared.tree.Stmt.{Stmt}
use Rattle.c_reached.specs.Bodies.{maybe_named, IsPut}
use Rattle.c_reached.proofs.BodyLemmas.{none_put}
use Rattle.c_reached.proofs.bodies.put_maybe.Goals as goal

pub returns-in-Some : goal.returns-in-Some
returns-in-Some c =
    subst (λ (o : Option Stmt). OnOk c.put_body.result (IsPut c.args.bodies.now.entries c.put_body.new.bodies.entries (maybe_named c.args.name.now (maybe_stmt o)))) (sym c.in-Some.is) c.put_body.ensures

pub returns-in-None : goal.returns-in-None
returns-in-None c =
    subst (λ (o : Option Stmt). IsPut c.args.bodies.now.entries c.args.bodies.now.entries (maybe_named c.args.name.now (maybe_stmt o))) (sym c.in-None.is) (none_put c.args.bodies.now.entries)
