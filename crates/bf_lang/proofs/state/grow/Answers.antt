use Rattle.std.proofs.Common.{ap, ◌∙◌, arith, length}
use Rattle.std.proofs.lemmas.List.{length_push}
use Rattle.bf_lang.specs.Cells.{cells_from}
use Rattle.bf_lang.proofs.TapeCells.{tape_push}
use Rattle.bf_lang.proofs.state.grow.Goals as goal

pub loop-k-preserved : goal.loop-k-preserved
loop-k-preserved c = record {
  same = ap (cells_from 0) c.in_ok-push.ensures.items ∙ (tape_push c.loop-k.cells.items ∙ c.loop-k.invariant.same);
  more = omega (arith, c.loop-k.invariant.more, ap length c.in_ok-push.ensures.items, length_push c.loop-k.cells.items 0);
}
