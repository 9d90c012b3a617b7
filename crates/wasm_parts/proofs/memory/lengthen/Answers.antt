use Rattle.std.proofs.Common.{◌≡◌, ◌+◌, length, ap, ◌∙◌, arith}
use Rattle.std.proofs.lemmas.List.{length-append}
use Rattle.wasm_parts.specs.Inside.{page_of}
use Rattle.wasm_parts.proofs.Paged.{page_of-more}
use Rattle.wasm_parts.proofs.memory.lengthen.Goals as goal

pub loop-alloc-preserved : goal.loop-alloc-preserved
loop-alloc-preserved c =
    let more : length c.push.new.self.items ≡ length c.loop-alloc.pages.items + 1 = ap length c.in_ok-push.ensures.items ∙ length-append c.loop-alloc.pages.items _ in
    record {
      longer = omega (arith, more, c.loop-alloc.invariant.longer);
      same = λ k. ap (λ pages. page_of pages k) c.in_ok-push.ensures.items ∙ (page_of-more c.loop-alloc.pages.items c.new.result c.new.ensures.items k ∙ c.loop-alloc.invariant.same k);
    }
