use Rattle.std.proofs.Common.{◌+◌}
use Rattle.c_syntax.specs.View.{ty_of, maybe_value}
use Rattle.c_types.specs.Expressions.{written}
use Rattle.c_types.specs.Census.{of_type, ty_sum, first_sum}
use Rattle.c_operands.proofs.NameLemmas.{fits_kept}
use Rattle.c_declared.proofs.HeldLemmas.{held_kept}
use Rattle.c_expressions.proofs.KeptLemmas.{layouts_at}
use Rattle.c_census.proofs.MemberLemmas.{counted_own}
use Rattle.c_census.proofs.members.count_member.Goals as goal

pub declared_sum-own-requires : goal.declared_sum-own-requires
declared_sum-own-requires c =
    let h = c.requires in
    let m = c.args.m.now in
    (written h.0 m.pos (ty_of m.ty), c.in_ok-ty.ensures.judged h.0 h.1.fits)

pub count_parts_of-requires : goal.count_parts_of-requires
count_parts_of-requires c = held_kept c.args.types.now c.written.new.types c.args.declared.now c.in_ok-ty.ensures.grows c.in_ok-ty.ensures.tags c.requires

pub returns : goal.returns
returns c =
    let old = c.args.types.now in
    let mid = c.written.new.types in
    let d = c.args.declared.now in
    let m = c.args.m.now in
    counted_own old mid c.count_parts_of.new.types d c.declared_sum-own.result c.in_ok-parts.parts c.plus.result (λ s k. k.node + ty_sum k s (ty_of m.ty) + first_sum k s (maybe_value m.first)) (λ s k. of_type (k.ty s.tags) (written s m.pos (ty_of m.ty)))
    c.in_ok-ty.ensures.grows c.in_ok-ty.ensures.tags
    (λ s holds. c.declared_sum-own.ensures (written s m.pos (ty_of m.ty)) s.tags (c.in_ok-ty.ensures.judged s holds.fits)
    (layouts_at mid d s c.as_slice.result.now c.as_slice.ensures.value (fits_kept old mid d s c.in_ok-ty.ensures.grows c.in_ok-ty.ensures.tags holds.fits)))
    c.in_ok-parts.ensures c.plus.ensures
