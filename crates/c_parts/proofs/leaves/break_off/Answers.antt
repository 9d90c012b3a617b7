use Rattle.std.proofs.Common.{List, ◌∷◌, ◌∙◌, ap, sym, drop}
use Rattle.c_store.specs.Shown.{value_of}
use Rattle.c_plain.specs.Machine.{Open}
use Rattle.c_parts.specs.declared.opened.Open as rust
use Rattle.c_parts.specs.Opens.{open_of}
use Rattle.c_parts.specs.Parts.{machine_of, without_top}
use Rattle.c_parts.proofs.Leaving.{broken_past_block}
use Rattle.c_parts.proofs.leaves.break_off.Goals as goal

pub loop-open-preserved : goal.loop-open-preserved
loop-open-preserved c = record {
  same = broken_past_block c.loop-open.parts.opened c.pop.new.self c.in-Block.block.first c.in-Block.block.slots (without_top (machine_of c.loop-open.parts)) c.leave.new.self c.keep.new.self _ (c.in-Some.ensures ∙ ap (λ (x : rust.Open). open_of x ∷ c.pop.new.self) c.in-Block.is) c.leave.ensures c.keep.ensures c.loop-open.invariant.same;
  some = c.loop-open.invariant.some;
}
