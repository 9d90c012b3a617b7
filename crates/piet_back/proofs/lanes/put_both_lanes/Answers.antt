use Rattle.std.proofs.Common.{length, sym, ap, ◌∙◌}
use Rattle.piet_back.specs.declared.layout.Layout.{Layout}
use Rattle.piet_back.proofs.Lookups.{length-flat}
use Rattle.piet_back.proofs.lanes.put_both_lanes.Goals as goal

pub put_op_lanes-requires-clause-count : goal.put_op_lanes-requires-clause-count
put_op_lanes-requires-clause-count c = ap length (c.deref.ensures.value ∙ c.in_ok-ops.ensures) ∙ (length-flat c.args.p.now.blocks ∙ sym (ap (λ (z : Layout). z.ops) c.requires.layout))

pub put_second_lanes-requires-clause-count : goal.put_second_lanes-requires-clause-count
put_second_lanes-requires-clause-count c = ap length (c.deref-2.ensures.value ∙ c.in_ok-ops.ensures) ∙ (length-flat c.args.p.now.blocks ∙ sym (ap (λ (z : Layout). z.ops) c.requires.layout))
