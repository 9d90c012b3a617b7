use Rattle.std.proofs.Common.{◌≡◌, ℕ, ◌+◌, ◌/◌, ◌%◌, ◌≤◌, List, length, ap, ◌∙◌, arith}
use Rattle.std.specs.Vec.{with_items}
use Rattle.wasm_rule.specs.Memory.{bytes_of}
use Rattle.wasm_parts.specs.Inside.{page_of, with_bytes_in}
use Rattle.wasm_parts.proofs.Paged.{page_of-get, grows_set}
use Rattle.wasm_parts.proofs.InPage.{length-with_bytes_in, written_back, stored_in, whole_page}
use Rattle.wasm_parts.proofs.memory.set_in_page.Goals as goal

pub write_word-requires : goal.write_word-requires
write_word-requires c =
    let pages = c.args.pages.now.items in
    let k = c.args.address / 65536 in
    let page = c.index_mut-page.result.now in
    let is : page.items ≡ page_of pages k = ap (λ v. v.items) c.index_mut-page.ensures.value ∙ page_of-get pages k page c.requires.there in
    let lent = c.as_mut_slice.ensures.value ∙ is in
    rw lent c.requires.inside

pub returns-clause-bytes : goal.returns-clause-bytes
returns-clause-bytes c =
    let pages = c.args.pages.now.items in
    let a = c.args.address in
    let page = c.index_mut-page.result.now in
    let lent = c.as_mut_slice.result.now in
    let new = c.write_word.new.page in
    let bytes : List ℕ = bytes_of 4 c.args.word in
    let is : page.items ≡ page_of pages (a / 65536) = ap (λ v. v.items) c.index_mut-page.ensures.value ∙ page_of-get pages (a / 65536) page c.requires.there in
    let wrote : new ≡ with_bytes_in page.items (a % 65536) bytes = c.write_word.ensures ∙ ap (λ (l : List ℕ). with_bytes_in l (a % 65536) bytes) c.as_mut_slice.ensures.value in
    let size : length new ≡ length page.items = ap length wrote ∙ length-with_bytes_in page.items (a % 65536) bytes in
    let count : length page.items ≡ length (page_of pages (a / 65536)) = ap length is in
    let inside : a % 65536 + 4 ≤ 65536 = whole_page pages (a / 65536) (a % 65536) 4 (c.requires.whole (a / 65536)) c.requires.inside (omega arith) in
    stored_in pages page (with_items page new) (a / 65536) (a % 65536) a bytes (omega arith) c.requires.there c.requires.low inside (omega arith) is
    (written_back page.items new page.len page.ok.0 size ∙ wrote)

pub returns-clause-grows : goal.returns-clause-grows
returns-clause-grows c =
    let pages = c.args.pages.now.items in
    let a = c.args.address in
    let page = c.index_mut-page.result.now in
    let new = c.write_word.new.page in
    let bytes : List ℕ = bytes_of 4 c.args.word in
    let is : page.items ≡ page_of pages (a / 65536) = ap (λ v. v.items) c.index_mut-page.ensures.value ∙ page_of-get pages (a / 65536) page c.requires.there in
    let wrote : new ≡ with_bytes_in page.items (a % 65536) bytes = c.write_word.ensures ∙ ap (λ (l : List ℕ). with_bytes_in l (a % 65536) bytes) c.as_mut_slice.ensures.value in
    let size : length new ≡ length page.items = ap length wrote ∙ length-with_bytes_in page.items (a % 65536) bytes in
    let back : length (with_items page new).items ≡ length (page_of pages (a / 65536)) = ap length (written_back page.items new page.len page.ok.0 size) ∙ (size ∙ ap length is) in
    grows_set pages (a / 65536) (with_items page new) c.requires.there (omega arith) (λ are some. back ∙ are (a / 65536) (λ none. some (back ∙ none)))
