use Rattle.std.proofs.Common.{◌+◌}
use Rattle.c_syntax.specs.View.{ty_of, maybe_value, decl_of}
use Rattle.c_types.specs.Units as plain
use Rattle.c_types.specs.Census.{of_type, ty_sum, first_sum}
use Rattle.c_operands.proofs.NameLemmas.{fits_kept}
use Rattle.c_declared.proofs.HeldLemmas.{held_kept, holds_kept}
use Rattle.c_expressions.proofs.KeptLemmas.{layouts_at}
use Rattle.c_census.proofs.MemberLemmas.{counted_own, counted_grown}
use Rattle.c_census.proofs.members.count_parameter.Goals as goal

pub declared_sum-own-requires : goal.declared_sum-own-requires
declared_sum-own-requires c =
    let h = c.requires in
    (plain.declared_parameter h.0 (decl_of c.args.p.now), c.in_ok-ty.ensures.judged h.0 h.1)

pub count_parts_of-requires : goal.count_parts_of-requires
count_parts_of-requires c = held_kept c.args.types.now c.parameter_type.new.types c.args.declared.now c.in_ok-ty.ensures.grows c.in_ok-ty.ensures.tags c.requires

pub add-requires : goal.add-requires
add-requires c =
    held_kept c.parameter_type.new.types c.count_parts_of.new.types c.args.declared.now c.in_ok-parts.ensures.grows c.in_ok-parts.ensures.tags
    (held_kept c.args.types.now c.parameter_type.new.types c.args.declared.now c.in_ok-ty.ensures.grows c.in_ok-ty.ensures.tags c.requires)

pub returns : goal.returns
returns c =
    let t0 = c.args.types.now in
    let t1 = c.parameter_type.new.types in
    let t2 = c.count_parts_of.new.types in
    let t3 = c.add.new.types in
    let d = c.args.declared.now in
    let p = decl_of c.args.p.now in
    let own = counted_own t0 t1 t2 d c.declared_sum-own.result c.in_ok-parts.parts c.plus.result (λ s k. k.node + ty_sum k s p.ty + first_sum k s p.first) (λ s k. of_type (k.ty s.tags) (plain.declared_parameter s p))
    c.in_ok-ty.ensures.grows c.in_ok-ty.ensures.tags
    (λ s holds. c.declared_sum-own.ensures (plain.declared_parameter s p) s.tags (c.in_ok-ty.ensures.judged s holds)
    (layouts_at t1 d s c.as_slice.result.now c.as_slice.ensures.value (fits_kept t0 t1 d s c.in_ok-ty.ensures.grows c.in_ok-ty.ensures.tags holds.fits)))
    c.in_ok-parts.ensures c.plus.ensures in
    record {
      counted = counted_grown t0 t2 t3 d c.plus.result (λ s k. k.node + ty_sum k s p.ty + first_sum k s p.first + of_type (k.ty s.tags) (plain.declared_parameter s p)) own c.in_ok-_refusal.ensures.grows c.in_ok-_refusal.ensures.tags;
      holds = λ s holds.
          let at1 = holds_kept t0 t1 d s c.in_ok-ty.ensures.grows c.in_ok-ty.ensures.tags holds in
          (c.in_ok-_refusal.ensures.added s (holds_kept t1 t2 d s c.in_ok-parts.ensures.grows c.in_ok-parts.ensures.tags at1)).holds;
      around = c.in_ok-_refusal.ensures.around;
    }
