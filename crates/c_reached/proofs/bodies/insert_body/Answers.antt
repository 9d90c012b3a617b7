use Rattle.std.proofs.Common.{List, ℕ, sym, subst}
use denote.Ref.{Bor}
use Rattle.c_syntax.specs.View.{stmt_of}
use Rattle.c_syntax.specs.declared.tree.Stmt.{Stmt}
use Rattle.c_reached.specs.Bodies.{named_body, IsPut}
use Rattle.c_reached.proofs.BodyLemmas.{new_put}
use Rattle.c_reached.proofs.bodies.insert_body.Goals as goal

pub returns : goal.returns
returns c = λ none.
    let old = c.args.bodies.now.entries in
    subst (λ (l : List (Bor (List ℕ) × Bor Stmt)). IsPut old l (named_body c.args.name.now (stmt_of c.args.body.now))) (sym c.in_ok-insert.ensures.entries) (new_put old c.args.name c.args.body none)
