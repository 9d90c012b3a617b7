use Rattle.std.proofs.Common.{Some, ap, subst, ◌∙◌}
use Rattle.c_types.specs.Table.{known}
use Rattle.c_layouts.specs.declared.layout.Layout.{Layout}
use Rattle.c_layouts.specs.Layouts.{LayoutIs}
use Rattle.c_declared.specs.Slots.{IsListed}
use Rattle.c_declared.proofs.SlotLemmas.{closed_slots}
use Rattle.c_declared.proofs.slots.slots_of_layout.Goals as goal

pub returns-in-Members : goal.returns-in-Members
returns-in-Members c = λ table layouts o at h list.
    closed_slots table layouts c.args.tag _ _ o (at ∙ ap (λ (l : Layout). Some l) c.in-Members.is)
    (subst (λ (l : Layout). LayoutIs (known table) l o) c.in-Members.is h)
    (subst (λ (l : Layout). IsListed (known table) (Some l) o) c.in-Members.is list)
