use Rattle.std.proofs.Common.{subst, ◌∙◌}
use Rattle.c_declared.specs.declared.slots.Slots.{Slots}
use Rattle.c_declared.specs.Slots.{AreSlots}
use Rattle.c_cells.proofs.KindLemmas.{members_counted}
use Rattle.c_cells.proofs.left.capacity.Goals as goal

pub returns-in-Members : goal.returns-in-Members
returns-in-Members c = λ table s are.
    c.member_count.ensures ∙ members_counted table c.args.layouts.now c.in-Members.tag s (subst (λ (x : Slots). AreSlots table c.args.layouts.now x s) c.in-Members.is are)
