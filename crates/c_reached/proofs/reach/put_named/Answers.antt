use Rattle.std.proofs.Common.{◌≡◌, ◌++◌, List, ℕ, ap, subst, ◌∙◌}
use Rattle.std.specs.Prelude.{OnOk, is_some}
use denote.Ref.{Bor}
use Rattle.c_syntax.specs.View.{stmt_of}
use Rattle.c_helpers.specs.Names.{stmt_names}
use Rattle.c_tree_names.specs.Added.{texts}
use Rattle.c_reached.specs.Bodies.{body_in}
use Rattle.c_reached.specs.Reaching.{with_all}
use Rattle.c_reached.proofs.reach.put_named.Goals as goal

pub returns : goal.returns
returns c =
    let is = λ (f : List ℕ). is_some (body_in c.args.bodies.now.entries f) in
    subst (λ (l : List (List ℕ)). OnOk c.put_all.result (texts c.put_all.new.known.keys ≡ with_all is (texts c.args.known.now.keys) l))
    (ap texts c.as_slice.ensures.value ∙ (c.in_ok-add_statement.ensures ∙ ap (λ (l : List (Bor (List ℕ))). texts l ++ stmt_names (stmt_of c.args.body.now)) c.new-names.ensures.items)) c.put_all.ensures
