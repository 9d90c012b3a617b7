use Rattle.std.proofs.Common.{◌≡◌, List, ℕ, true, false, sym, subst, ◌∙◌}
use Rattle.std.specs.Prelude.{OnOk, is_some}
use Rattle.c_tree_names.specs.Added.{texts}
use Rattle.c_reached.specs.Bodies.{body_in}
use Rattle.c_reached.proofs.SetLemmas.{tested_by}
use Rattle.c_reached.proofs.reach.put_defined.Goals as goal

pub returns-then-is_defined : goal.returns-then-is_defined
returns-then-is_defined c =
    subst (λ (l : List (List ℕ)). OnOk c.put_name.result (texts c.put_name.new.names.keys ≡ l))
    (tested_by (λ f. is_some (body_in c.args.bodies.now.entries f)) (texts c.args.known.now.keys) c.args.name.now true (sym c.is_defined.ensures ∙ c.if-is_defined.true)) c.put_name.ensures

pub returns-else-is_defined : goal.returns-else-is_defined
returns-else-is_defined c = tested_by (λ f. is_some (body_in c.args.bodies.now.entries f)) (texts c.args.known.now.keys) c.args.name.now false (sym c.is_defined.ensures ∙ c.if-is_defined.false)
