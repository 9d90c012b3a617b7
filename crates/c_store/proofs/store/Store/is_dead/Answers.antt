use Rattle.std.proofs.Common.{ap, ◌∙◌, List}
use Rattle.std.specs.Prelude.{find, ◌==◌}
use Rattle.c_store.specs.declared.live.Live.{Live}
use Rattle.c_store.proofs.Steps.{dead_is}
use Rattle.c_store.proofs.store.Store.is_dead.Goals as goal

pub returns-in-Point : goal.returns-in-Point
returns-in-Point c =
    dead_is c.self.inside.objects.items c.self.inside.cells.items c.self.inside.next c.args.self.now c.in-Point.p c.self.invariant c.self.view_is c.args.v c.find_live.result c.is_none.result c.in-Point.is
    (c.find_live.ensures ∙ ap (λ (xs : List Live). find (λ x. x.number == c.in-Point.p.object) xs) c.deref.ensures.value) c.is_none.ensures
