use Rattle.std.proofs.Common.{◌≡◌, ℕ, List, map, sym, ap, subst, ◌∙◌}
use Rattle.std.specs.Prelude.{true}
use Rattle.c_syntax.specs.View.{item_of, unit_of}
use Rattle.c_syntax.specs.declared.tree.Item.{Item}
use Rattle.c_types.specs.Scope.{contains}
use Rattle.c_types.specs.Units.{start_scope, all_items}
use Rattle.c_eval.specs.Text.{definitions}
use Rattle.c_opening.specs.Named.{tags_in, HasNumber}
use Rattle.c_lower.specs.declared.bodies.Bodies.{Bodies}
use Rattle.c_lower.specs.Bodies.{AddsBodies}
use Rattle.c_lower.proofs.BodyLemmas.{bodies_made}
use Rattle.c_lower.proofs.bodies.bodies_of.Goals as goal

pub take_items-requires-clause-holds : goal.take_items-requires-clause-holds
take_items-requires-clause-holds c = (start_scope (unit_of c.args.unit.now), c.in_ok-opening.ensures.holds)

pub take_items-requires-clause-numbered : goal.take_items-requires-clause-numbered
take_items-requires-clause-numbered c =
    subst (λ (l : List Item). (name : List ℕ) → contains (tags_in (map item_of l)) name ≡ true → HasNumber c.in_ok-opening.opening.types name) (sym c.as_slice-items.ensures.value) c.in_ok-opening.ensures.numbered

pub returns : goal.returns
returns c = λ end typed.
    let s = start_scope (unit_of c.args.unit.now) in
    let items = c.as_slice-items.ensures.value in
    let a : Bodies = record { each = c.new-each.result; literals = c.new-literals.result } in
    let adds = c.in_ok-take_items.ensures s end c.in_ok-opening.ensures.holds (ap (λ (l : List Item). all_items s (map item_of l)) items ∙ typed) in
    bodies_made a c.take_items.new.bodies (definitions s (map item_of c.args.unit.now.items.items.items)) c.new-each.ensures.items c.new-literals.ensures.items
    (subst (λ (l : List Item). AddsBodies a c.take_items.new.bodies (definitions s (map item_of l))) items adds)
