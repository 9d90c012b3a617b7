use Rattle.std.proofs.Common.{List, ℕ, refl, ap, ◌∙◌}
use Rattle.std.specs.Prelude.{is_some}
use Rattle.c_tree_names.specs.Added.{texts}
use Rattle.c_tree_names.specs.Items.{names_of_body}
use Rattle.c_reached.specs.Bodies.{body_in}
use Rattle.c_reached.specs.Reaching.{with_all}
use Rattle.c_reached.proofs.reach.visit_at.Goals as goal

pub returns-in_ok-visit-in-Some : goal.returns-in_ok-visit-in-Some
returns-in_ok-visit-in-Some c =
    let entries = c.args.bodies.now.entries in
    let is = λ (f : List ℕ). is_some (body_in entries f) in
    (c.in-Some.ensures.0, c.in_ok-visit-in-Some.ensures ∙ ap (λ (n : List ℕ). with_all is (texts c.args.known.now.keys) (names_of_body (body_in entries n))) c.in-Some.ensures.1)

pub returns-in-None : goal.returns-in-None
returns-in-None c = (c.in-None.ensures, refl)
