use Rattle.std.proofs.Common.{subst}
use Rattle.c_declared.specs.declared.slots.Slots.{Slots}
use Rattle.c_declared.specs.Slots.{AreSlots}
use Rattle.c_declared.proofs.SlotLemmas.{members_hold}
use Rattle.c_declared.proofs.slots.Slots.holds.Goals as goal

pub returns-in-Members : goal.returns-in-Members
returns-in-Members c = λ table s h.
    members_hold table c.args.layouts.now c.in-Members.tag c.args.count c.member_count.result s (subst (λ (l : Slots). AreSlots table c.args.layouts.now l s) c.in-Members.is h) c.member_count.ensures
