use Rattle.c_store.proofs.Steps.{held_before}
use Rattle.c_store.proofs.store.Store.forget.Goals as goal

pub invariant_of-self : goal.invariant_of-self
invariant_of-self c =
    held_before c.self.inside.objects.items c.self.inside.cells.items c.self.inside.next c.args.number c.args.self.now c.leave.new.self c.self.invariant c.self.view_is c.leave.ensures
