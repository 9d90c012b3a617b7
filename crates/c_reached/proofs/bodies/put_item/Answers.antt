use Rattle.std.proofs.Common.{List, ℕ, sym, subst}
use Rattle.std.specs.Prelude.{OnOk}
use Rattle.c_syntax.specs.View.{item_of, maybe_stmt}
use Rattle.c_syntax.specs.declared.tree.Item.{Item}
use Rattle.c_reached.specs.Bodies.{own_body, maybe_named, IsPut}
use Rattle.c_reached.proofs.BodyLemmas.{none_put}
use Rattle.c_reached.proofs.bodies.put_item.Goals as goal

pub returns-in-Struct : goal.returns-in-Struct
returns-in-Struct c = subst (λ (x : Item). IsPut c.args.bodies.now.entries c.args.bodies.now.entries (own_body (item_of x))) (sym c.in-Struct.is) (none_put c.args.bodies.now.entries)

pub returns-in-Object : goal.returns-in-Object
returns-in-Object c = subst (λ (x : Item). IsPut c.args.bodies.now.entries c.args.bodies.now.entries (own_body (item_of x))) (sym c.in-Object.is) (none_put c.args.bodies.now.entries)

pub returns-in-Function : goal.returns-in-Function
returns-in-Function c =
    let old = c.args.bodies.now.entries in
    let new = c.put_maybe.new.bodies.entries in
    subst (λ (x : Item). OnOk c.put_maybe.result (IsPut old new (own_body (item_of x)))) (sym c.in-Function.is)
    (subst (λ (name : List ℕ). OnOk c.put_maybe.result (IsPut old new (maybe_named name (maybe_stmt c.in-Function.body)))) c.as_bytes.ensures c.put_maybe.ensures)
