use Rattle.std.proofs.Common.{List, ◌∷◌, ◌∙◌, ap, sym, drop}
use Rattle.c_store.specs.Shown.{value_of}
use Rattle.c_plain.specs.Machine.{Open}
use Rattle.c_parts.specs.declared.opened.Open as rust
use Rattle.c_parts.specs.Opens.{open_of}
use Rattle.c_parts.specs.Parts.{machine_of}
use Rattle.c_parts.proofs.Leaving.{past_block, past_loop, past_switch}
use Rattle.c_parts.proofs.calls.return_top.Goals as goal

pub loop-open-preserved-in-Block : goal.loop-open-preserved-in-Block
loop-open-preserved-in-Block c = record {
  same = past_block c.loop-open.parts.opened c.pop.new.self c.in-Block.block.first c.in-Block.block.slots (value_of c.in-Some.v) (machine_of c.loop-open.parts) c.leave.new.self _ (c.in-Some-pop.ensures ∙ ap (λ (x : rust.Open). open_of x ∷ c.pop.new.self) c.in-Block.is) c.leave.ensures c.loop-open.invariant.same;
  some = c.loop-open.invariant.some;
}

pub loop-open-preserved-in-Loop : goal.loop-open-preserved-in-Loop
loop-open-preserved-in-Loop c = record {
  same = past_loop c.loop-open.parts.opened c.pop.new.self c.in-Loop.field-0.again c.in-Loop.field-0.past (value_of c.in-Some.v) (machine_of c.loop-open.parts) _ (c.in-Some-pop.ensures ∙ ap (λ (x : rust.Open). open_of x ∷ c.pop.new.self) c.in-Loop.is) c.loop-open.invariant.same;
  some = c.loop-open.invariant.some;
}

pub loop-open-preserved : goal.loop-open-preserved
loop-open-preserved c = record {
  same = past_switch c.loop-open.parts.opened c.pop.new.self c.in-Switch.field-0 (value_of c.in-Some.v) (machine_of c.loop-open.parts) _ (c.in-Some-pop.ensures ∙ ap (λ (x : rust.Open). open_of x ∷ c.pop.new.self) c.in-Switch.is) c.loop-open.invariant.same;
  some = c.loop-open.invariant.some;
}
