use Rattle.std.proofs.Common.{List, sym, subst}
use Rattle.c_layouts.specs.declared.layout.Layout.{Layout}
use Rattle.c_types.specs.Types.{Members}
use Rattle.c_cells.specs.Structs.{HasMembers}
use Rattle.c_objects.proofs.PassedLemmas.{closed_members, closed_there}
use Rattle.c_objects.proofs.externals.close_struct.Goals as goal

pub close-requires : goal.close-requires
close-requires c =
    let h = c.requires in
    let table = c.args.types.now in
    (h.1, subst (λ (ls : List Layout). HasMembers table ls c.in-Some.number h.1) (sym c.as_slice.ensures.value) (closed_members table c.args.declared.now h.0 c.args.name.now c.in-Some.number h.1 h.2 h.3 c.in-Some.ensures))

pub returns-in-Some : goal.returns-in-Some
returns-in-Some c = λ s members words holds kinds.
    let table = c.args.types.now in
    let name = c.args.name.now in
    let n = c.in-Some.number in
    c.close.ensures name members words s.tags holds.distinct c.in-Some.ensures
    (subst (λ (ls : List Layout). HasMembers table ls n members) (sym c.as_slice.ensures.value) (closed_members table c.args.declared.now s name n members words holds c.in-Some.ensures)) kinds

pub returns-in-None : goal.returns-in-None
returns-in-None c = λ s members words holds kinds.
    let k = holds.fits.numbered c.args.name.now (Members members words) (closed_there s c.args.name.now members words) in
    absurd (c.in-None.ensures k.0 k.1)
