use Rattle.std.proofs.Common.{◌+◌, length, ap, ◌∙◌, arith, int_cmp}
use Rattle.std.specs.FinMap as map
use Rattle.std.proofs.lemmas.List.{length-append}
use Rattle.ws_lang.specs.Pages.{page_of, heap_of}
use Rattle.ws_lang.proofs.PageLemmas.{page_of-none, paged_none, heap_none}
use Rattle.ws_lang.proofs.heap.Heap.new.Goals as goal

pub loop-k-preserved : goal.loop-k-preserved
loop-k-preserved c = record {
  count = ap length c.in_ok-push.ensures.items ∙ (length-append c.loop-k.pages.items _ ∙ ap (λ n. n + 1) c.loop-k.invariant.count);
  none = λ k. ap (λ pages. page_of pages k) c.in_ok-push.ensures.items ∙ page_of-none c.loop-k.pages.items c.new.result c.new.ensures.items c.loop-k.invariant.none k;
}

pub returns : goal.returns
returns c = ap (λ es. heap_of c.loop-k.pages.items (map.from_entries {R = int_cmp} es)) c.new-2.ensures.empty ∙ heap_none c.loop-k.pages.items c.loop-k.invariant.none

pub invariant_of-result : goal.invariant_of-result
invariant_of-result c = paged_none c.loop-k.pages.items (omega arith) c.loop-k.invariant.none
