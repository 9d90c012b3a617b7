use Rattle.std.proofs.Common.{◌+◌, List, ℕ, drop, sym, ap, ◌∙◌}
use Rattle.std.specs.Prelude.{is_some}
use Rattle.std.proofs.lemmas.List.{drop_all, drop_more}
use denote.Ref.{Bor}
use Rattle.c_tree_names.specs.Added.{texts}
use Rattle.c_reached.specs.Bodies.{body_in}
use Rattle.c_reached.specs.Reaching.{with_all}
use Rattle.c_reached.proofs.reach.put_all.Goals as goal

pub loop-name-preserved : goal.loop-name-preserved
loop-name-preserved c =
    let names = c.args.names.now in
    let i = c.loop-name.name-index in
    let is = λ (f : List ℕ). is_some (body_in c.args.bodies.now.entries f) in
    ap (λ (l : List (List ℕ)). with_all is l (texts (drop (i + 1) names))) c.in_ok-put_defined.ensures
    ∙ (sym (ap (λ (l : List (Bor (List ℕ))). with_all is (texts c.loop-name.known.keys) (texts l)) (drop_more names i _ c.loop-name-test.true)) ∙ c.loop-name.invariant)

pub returns : goal.returns
returns c =
    let is = λ (f : List ℕ). is_some (body_in c.args.bodies.now.entries f) in
    sym (ap (λ (l : List (Bor (List ℕ))). with_all is (texts c.loop-name.known.keys) (texts l)) (drop_all c.loop-name.name-index c.args.names.now c.loop-name-test.false)) ∙ c.loop-name.invariant
