use Rattle.std.proofs.Common.{List, ◌∷◌, ◌∙◌, ap, sym, drop}
use Rattle.c_store.specs.Shown.{value_of}
use Rattle.c_plain.specs.Machine.{Open}
use Rattle.c_parts.specs.declared.opened.Open as rust
use Rattle.c_parts.specs.Opens.{open_of}
use Rattle.c_parts.specs.Parts.{machine_of, without_top}
use Rattle.c_parts.specs.declared.opened.Open.TheVariants as rust_open
use Rattle.c_parts.proofs.Leaving.{continued_past_block, continued_past_switch}
use Rattle.c_parts.proofs.leaves.continue_on.Goals as goal

pub loop-open-preserved-in-Block : goal.loop-open-preserved-in-Block
loop-open-preserved-in-Block c = record {
  same = continued_past_block c.loop-open.parts.opened c.drop_top.new.self c.in-Block.block.first c.in-Block.block.slots (without_top (machine_of c.loop-open.parts)) c.leave.new.self c.keep.new.self _
      (c.in-Some.ensures ∙ (ap (λ (x : rust.Open). open_of x ∷ drop 1 c.loop-open.parts.opened) c.in-Block.is ∙ ap (λ (os : List Open). open_of (rust_open.Block c.in-Block.block) ∷ os) (sym c.drop_top.ensures))) c.leave.ensures c.keep.ensures c.loop-open.invariant.same;
  some = c.loop-open.invariant.some;
}

pub loop-open-preserved : goal.loop-open-preserved
loop-open-preserved c = record {
  same = continued_past_switch c.loop-open.parts.opened c.drop_top-in-Switch.new.self c.in-Switch.field-0 (without_top (machine_of c.loop-open.parts)) _
      (c.in-Some.ensures ∙ (ap (λ (x : rust.Open). open_of x ∷ drop 1 c.loop-open.parts.opened) c.in-Switch.is ∙ ap (λ (os : List Open). open_of (rust_open.Switch c.in-Switch.field-0) ∷ os) (sym c.drop_top-in-Switch.ensures))) c.loop-open.invariant.same;
  some = c.loop-open.invariant.some;
}
