use Rattle.std.proofs.Common.{◌≡◌, ◌+◌, ◌/◌, ◌%◌, ◌≤◌, sym, ap, ◌∙◌, arith}
use Rattle.wasm_parts.proofs.Paged.{page_of-get}
use Rattle.wasm_parts.proofs.InPage.{loaded_in, whole_page}
use Rattle.wasm_parts.proofs.memory.word_in_page.Goals as goal

pub word_from-requires : goal.word_from-requires
word_from-requires c =
    let pages = c.args.pages.now.items in
    let k = c.args.address / 65536 in
    let bytes = c.as_slice.ensures.value ∙ (ap (λ v. v.items) c.index.ensures ∙ page_of-get pages k c.index.result.now c.requires.there) in
    rw bytes c.requires.inside

pub returns : goal.returns
returns c =
    let pages = c.args.pages.now.items in
    let a = c.args.address in
    let inside : a % 65536 + 4 ≤ 65536 = whole_page pages (a / 65536) (a % 65536) 4 (c.requires.whole (a / 65536)) c.requires.inside (omega arith) in
    let bytes = c.as_slice.ensures.value ∙ (ap (λ v. v.items) c.index.ensures ∙ page_of-get pages (a / 65536) c.index.result.now c.requires.there) in
    c.word_from.ensures ∙ sym (loaded_in pages c.as_slice.result.now (a / 65536) (a % 65536) a 4 (omega arith) c.requires.low inside bytes)
