use Rattle.std.proofs.Common.{◌≡◌, ◌≤◌, ◌<◌, List, Some, length, subst, sym, ap, ◌∙◌, arith}
use Rattle.std.specs.Prelude.{slice_get}
use Rattle.std.proofs.lemmas.Option.{slice_get-get_or}
use Rattle.c_store.specs.declared.live.Live.{Live}
use Rattle.c_store.specs.Live.{OldestBelow}
use Rattle.c_store.proofs.Steps.{held_less, shown_less, shown_all}
use Rattle.c_store.proofs.store.Store.leave.Goals as goal

pub invariant_of-self : goal.invariant_of-self
invariant_of-self c =
    let xs = c.self.inside.objects.items in
    let x : Live = c.index.result.now in
    let within : c.count_below-count.result < length xs = omega arith in
    let there : slice_get xs c.count_below-count.result ≡ Some x = slice_get-get_or xs c.count_below-count.result x within ∙ ap Some (sym c.index.ensures) in
    held_less xs c.truncate-then-count-len.new.self.items c.self.inside.cells.items c.truncate.new.self.items c.self.inside.next c.count_below-count.result x c.self.invariant there c.truncate-then-count-len.ensures.items c.truncate.ensures.items

pub returns-then-count-len : goal.returns-then-count-len
returns-then-count-len c =
    let xs = c.self.inside.objects.items in
    let x : Live = c.index.result.now in
    let within : c.count_below-count.result < length xs = omega arith in
    let there : slice_get xs c.count_below-count.result ≡ Some x = slice_get-get_or xs c.count_below-count.result x within ∙ ap Some (sym c.index.ensures) in
    shown_less xs c.truncate-then-count-len.new.self.items c.self.inside.cells.items c.truncate.new.self.items c.self.inside.next c.count_below-count.result x c.self.invariant there c.truncate-then-count-len.ensures.items c.truncate.ensures.items
    c.args.number c.args.self.now (subst (λ (zs : List Live). OldestBelow zs c.args.number c.count_below-count.result) c.deref.ensures.value c.count_below-count.ensures) c.self.view_is

pub returns-else-count-len : goal.returns-else-count-len
returns-else-count-len c =
    let xs = c.self.inside.objects.items in
    let all : length xs ≤ c.count_below-count.result = omega arith in
    shown_all xs c.self.inside.cells.items c.self.inside.next c.count_below-count.result c.args.number c.args.self.now c.self.invariant all
    (subst (λ (zs : List Live). OldestBelow zs c.args.number c.count_below-count.result) c.deref.ensures.value c.count_below-count.ensures) c.self.view_is
