use Rattle.std.proofs.Common.{◌+◌}
use Rattle.c_syntax.specs.View.{ty_of, maybe_value}
use Rattle.c_types.specs.Census.{ty_sum, first_sum}
use Rattle.c_declared.proofs.HeldLemmas.{held_kept}
use Rattle.c_weights.proofs.SumLemmas.{counted_first, counted_both}
use Rattle.c_census.proofs.members.count_parts_of.Goals as goal

pub count_first-requires : goal.count_first-requires
count_first-requires c = held_kept c.args.types.now c.count_type.new.types c.args.declared.now c.in_ok-written.ensures.grows c.in_ok-written.ensures.tags c.requires

pub returns : goal.returns
returns c =
    let old = c.args.types.now in
    let mid = c.count_type.new.types in
    let d = c.args.declared.now in
    let x = c.args.d.now in
    counted_both old mid c.count_first.new.types d c.plus.result c.in_ok-first.first c.plus-2.result (λ s k. k.node + ty_sum k s (ty_of x.ty)) (λ s k. first_sum k s (maybe_value x.first))
    (counted_first old mid d c.node.result c.in_ok-written.written c.plus.result (λ s k. k.node) (λ s k. ty_sum k s (ty_of x.ty)) (λ s. c.node.ensures) c.in_ok-written.ensures c.plus.ensures)
    c.in_ok-first.ensures c.plus-2.ensures
