use Rattle.std.proofs.Common.{Option, subst}
use Rattle.c_types.specs.Table.{known}
use Rattle.c_layouts.specs.Layouts.{IsMember}
use Rattle.c_forms.proofs.MemberLemmas.{found_is, missing_is}
use Rattle.c_forms.proofs.members.placed.Goals as goal

pub returns-in-Some : goal.returns-in-Some
returns-in-Some c = λ table o h.
    found_is table c.in-Some.ty c.args.at o c.place_at.result (subst (λ (n : Option _). IsMember (known table) n o) c.in-Some.is h) (c.place_at.ensures table)

pub returns-in-None : goal.returns-in-None
returns-in-None c = λ table o h.
    missing_is table c.args.at o (subst (λ (n : Option _). IsMember (known table) n o) c.in-None.is h)
