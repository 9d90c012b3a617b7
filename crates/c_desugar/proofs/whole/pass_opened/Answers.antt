use Rattle.std.proofs.Common.{◌≡◌, ℕ, List, map, true, sym, ap, subst, ◌∙◌}
use Rattle.std.specs.Prelude.{IfOk}
use Rattle.c_syntax.specs.View.{item_of, unit_of}
use Rattle.c_syntax.specs.declared.tree.Item.{Item}
use Rattle.c_types.specs.Scope.{contains}
use Rattle.c_types.specs.Units.{start_scope, all_items}
use Rattle.c_opening.specs.Named.{tags_in, HasNumber}
use Rattle.c_helpers.specs.Fewer.{fewer_in_items}
use Rattle.c_desugar.proofs.whole.pass_opened.Goals as goal

pub pass_items-requires-clause-stands : goal.pass_items-requires-clause-stands
pass_items-requires-clause-stands c = (start_scope (unit_of c.args.unit.now), record { holds = c.requires.holds; names = c.requires.names })

pub pass_items-requires-clause-numbered : goal.pass_items-requires-clause-numbered
pass_items-requires-clause-numbered c =
    subst (λ (l : List Item). (name : List ℕ) → contains (tags_in (map item_of l)) name ≡ true → HasNumber c.args.types name) (sym c.as_slice.ensures.value) c.requires.numbered

pub returns : goal.returns
returns c = λ end typed.
    let s = start_scope (unit_of c.args.unit.now) in
    subst (λ (l : List Item). IfOk c.pass_items.result (λ r. map item_of r.items ≡ fewer_in_items s (map item_of l))) c.as_slice.ensures.value
    (c.pass_items.ensures s end (record { holds = c.requires.holds; names = c.requires.names }) (ap (λ (l : List Item). all_items s (map item_of l)) c.as_slice.ensures.value ∙ typed))
