use Rattle.std.proofs.Common.{◌+◌, length, slice_get, ap, ◌∙◌, arith}
use Rattle.std.proofs.lemmas.List.{length-append}
use Rattle.sq_lang.specs.Pages.{cells_in, page_at}
use Rattle.sq_lang.proofs.Paged.{none_more, none_at, paged_none, cells_none}
use Rattle.sq_lang.proofs.cells.Cells.new.Goals as goal

pub loop-k-preserved : goal.loop-k-preserved
loop-k-preserved c = record {
  count = ap length c.in_ok-push.ensures.items ∙ (length-append c.loop-k.front.items _ ∙ ap (λ n. n + 1) c.loop-k.invariant.count);
  none = λ k. ap (λ front. cells_in (slice_get front k)) c.in_ok-push.ensures.items ∙ none_more c.loop-k.front.items c.new.result c.new.ensures.items c.loop-k.invariant.none k;
}

pub returns : goal.returns
returns c = cells_none (page_at c.loop-k.front.items _) (none_at c.loop-k.front.items _ c.new-2.ensures.empty c.loop-k.invariant.none)

pub invariant_of-result : goal.invariant_of-result
invariant_of-result c = paged_none c.loop-k.front.items _ (omega arith) (none_at c.loop-k.front.items _ c.new-2.ensures.empty c.loop-k.invariant.none)
