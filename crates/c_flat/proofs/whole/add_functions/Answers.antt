use Rattle.std.proofs.Common.{◌≡◌, ℕ, List, [], map, sym, subst}
use Rattle.std.specs.Prelude.{true}
use Rattle.c_syntax.specs.View.{item_of, unit_of}
use Rattle.c_syntax.specs.declared.tree.Item.{Item}
use Rattle.c_types.specs.Scope.{contains}
use Rattle.c_types.specs.Units.{start_scope}
use Rattle.c_eval.specs.Text.{definitions}
use Rattle.c_opening.specs.Named.{tags_in, HasNumber}
use Rattle.c_fitting.specs.Whole.{ItemsAreFit}
use Rattle.c_linked.specs.declared.program.Compiled.{Compiled}
use Rattle.c_flat.specs.Walk.{AddsFunctions, KnowsCharges}
use Rattle.c_flat.proofs.whole.add_functions.Goals as goal

pub take_items-requires-clause-holds : goal.take_items-requires-clause-holds
take_items-requires-clause-holds c = (start_scope (unit_of c.args.unit.now), c.in_ok-opening.ensures.holds)

pub take_items-requires-clause-numbered : goal.take_items-requires-clause-numbered
take_items-requires-clause-numbered c =
    subst (λ (l : List Item). (name : List ℕ) → contains (tags_in (map item_of l)) name ≡ true → HasNumber c.in_ok-opening.opening.types name) (sym c.as_slice-items.ensures.value) c.in_ok-opening.ensures.numbered

pub returns : goal.returns
returns c = λ rules names files fit knows.
    let u = unit_of c.args.unit.now in
    let s = start_scope u in
    let items = c.as_slice-items.ensures.value in
    let fits = subst (λ (l : List Item). ItemsAreFit s (map item_of l)) (sym items) fit in
    let charges = subst (λ (l : List Item). KnowsCharges rules s (map item_of l)) (sym items) knows in
    let adds = c.in_ok-take_items.ensures rules s names (record { holds = c.in_ok-opening.ensures.holds; structs = c.new-structs.ensures c.in_ok-opening.opening.types; files = files }) fits charges in
    let first = subst (λ (l : List Compiled). AddsFunctions rules c.args.out.now c.take_items.new.out names l c.take_items.new.compiled.items (definitions s (map item_of c.as_slice-items.result.now))) c.new-compiled.ensures.items adds in
    subst (λ (l : List Item). AddsFunctions rules c.args.out.now c.take_items.new.out names [] c.take_items.new.compiled.items (definitions s (map item_of l))) items first
