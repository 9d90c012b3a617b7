use Rattle.std.proofs.Common.{◌≤◌, suc, List, map, sym, ap, subst, ◌∙◌, arith, add-one}
use Rattle.c_types.specs.Declarations.{first_slot, capacity}
use Rattle.c_store.specs.declared.kind.Kind.{Kind}
use Rattle.c_resolved.specs.Same.{kind_in}
use Rattle.c_declared.specs.Slots.{behind}
use Rattle.c_cells.proofs.KindLemmas.{IsGoing, goes_on, goes_past, going_done, slot_is, no_slot}
use Rattle.c_cells.proofs.left.add_left.Goals as goal
use Rattle.c_cells.proofs.left.add_left.Goals.{in-Some+in_ok-add_kinds, in_default}

pub loop-k-preserved : goal.loop-k-preserved
loop-k-preserved c = λ s tags are structs.
    let table = c.args.types.now in
    let k = c.loop-k.k in
    let from = c.args.from in
    let old = map kind_in c.args.kinds.now.items in
    let now = map kind_in c.loop-k.kinds.items in
    let g = c.loop-k.invariant s tags are structs in
    let slot = c.at.ensures table s are in
    rw add-one (elim c.match-at.branch [
      | in-Some+in_ok-add_kinds w ↦
          let p = slot_is table c.at.result w.in-Some.ty (first_slot (behind k s)) w.in-Some.is slot in
          goes_on tags s from k old now (map kind_in c.match-at.kinds.items) p.0 g p.1
          (ap (map kind_in) (ap (λ v. v.items) w.kinds-is) ∙ w.in_ok-add_kinds.ensures p.0 tags p.2 structs)
      | in_default w ↦
          subst (λ (l : List Kind). IsGoing tags s from (suc k) old (map kind_in l)) (sym (ap (λ v. v.items) w.kinds-is))
          (goes_past tags s from k old now g (no_slot table c.at.result (first_slot (behind k s)) w.in_default.is slot))
    ])

pub returns : goal.returns
returns c = λ s tags are structs.
    let past : capacity s ≤ c.loop-k.k = omega (arith, c.loop-k-test.false, c.capacity-k-end.ensures c.args.types.now s are) in
    going_done tags s c.args.from c.loop-k.k (map kind_in c.args.kinds.now.items) (map kind_in c.loop-k.kinds.items) (c.loop-k.invariant s tags are structs) past
