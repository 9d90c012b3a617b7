use Rattle.std.proofs.Common.{subst}
use Rattle.c_declared.specs.declared.slots.Slots.{Slots}
use Rattle.c_declared.specs.Slots.{AreSlots}
use Rattle.c_declared.proofs.SlotLemmas.{element_slot, no_element, member_slot, nothing_slot}
use Rattle.c_declared.proofs.slots.Slots.at.Goals as goal

pub returns-then-k-count : goal.returns-then-k-count
returns-then-k-count c = λ table s h.
    element_slot table c.args.layouts.now c.in-Elements.ty c.in-Elements.count c.args.k s (subst (λ (l : Slots). AreSlots table c.args.layouts.now l s) c.in-Elements.is h) c.if-k-count.true

pub returns-else-k-count : goal.returns-else-k-count
returns-else-k-count c = λ table s h.
    no_element table c.args.layouts.now c.in-Elements.ty c.in-Elements.count c.args.k s (subst (λ (l : Slots). AreSlots table c.args.layouts.now l s) c.in-Elements.is h) c.if-k-count.false

pub returns-in-Members : goal.returns-in-Members
returns-in-Members c = λ table s h.
    member_slot table c.args.layouts.now c.in-Members.tag c.args.k c.member_at.result s (subst (λ (l : Slots). AreSlots table c.args.layouts.now l s) c.in-Members.is h) c.member_at.ensures

pub returns-in-Nothing : goal.returns-in-Nothing
returns-in-Nothing c = λ table s h.
    nothing_slot table c.args.layouts.now c.args.k s (subst (λ (l : Slots). AreSlots table c.args.layouts.now l s) c.in-Nothing.is h)
