use Rattle.std.proofs.Common.{◌≡◌, List, ℕ, Option, sym, ap, subst, ◌∙◌}
use Rattle.std.specs.Prelude.{OnOk, is_some}
use denote.Ref.{Bor}
use Rattle.c_syntax.specs.Plain.{CStmt}
use Rattle.c_syntax.specs.declared.tree.Stmt.{Stmt}
use Rattle.c_tree_names.specs.Added.{texts}
use Rattle.c_tree_names.specs.Items.{names_of_body}
use Rattle.c_reached.specs.Bodies.{plain_body, body_in}
use Rattle.c_reached.specs.Reaching.{with_all}
use Rattle.c_reached.proofs.reach.visit.Goals as goal

pub returns-in-Some : goal.returns-in-Some
returns-in-Some c =
    let is = λ (f : List ℕ). is_some (body_in c.args.bodies.now.entries f) in
    subst (λ (o : Option CStmt). OnOk c.put_named.result (texts c.put_named.new.known.keys ≡ with_all is (texts c.args.known.now.keys) (names_of_body o)))
    (sym (ap (λ (o : Option (Bor Stmt)). plain_body o) c.in-Some.is) ∙ c.body_of.ensures) c.put_named.ensures

pub returns-in-None : goal.returns-in-None
returns-in-None c =
    let is = λ (f : List ℕ). is_some (body_in c.args.bodies.now.entries f) in
    ap (λ (o : Option CStmt). with_all is (texts c.args.known.now.keys) (names_of_body o)) (sym (ap (λ (o : Option (Bor Stmt)). plain_body o) c.in-None.is) ∙ c.body_of.ensures)
