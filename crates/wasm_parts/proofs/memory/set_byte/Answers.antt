use Rattle.std.proofs.Common.{◌≡◌, ◌/◌, ◌%◌, ◌<◌, ◌≤◌, length, refl, ap, ◌∙◌, arith}
use Rattle.std.proofs.lemmas.List.{length-set}
use Rattle.std.specs.Vec.{with_item}
use Rattle.wasm_parts.specs.Inside.{page_of}
use Rattle.wasm_parts.proofs.Paged.{page_of-get, stored, changed_byte, changed_not, grows_set}
use Rattle.wasm_parts.proofs.Fits.{zero_or_there}
use Rattle.wasm_parts.proofs.memory.set_byte.Goals as goal

pub returns-then-index-len-clause-bytes : goal.returns-then-index-len-clause-bytes
returns-then-index-len-clause-bytes c =
    let pages = c.args.pages.now.items in
    let a = c.args.address in
    let page = c.index_mut-page.result.now in
    let bytes : page.items ≡ page_of pages (a / 65536) = ap (λ v. v.items) c.index_mut-page.ensures.value ∙ page_of-get pages (a / 65536) page c.requires.there in
    let within : a % 65536 < length page.items = omega arith in
    stored pages (with_item page (a % 65536) c.args.byte) a c.args.byte c.requires.low c.requires.there (changed_byte pages page.items (with_item page (a % 65536) c.args.byte).items a c.args.byte bytes within refl)

pub returns-then-index-len-clause-grows : goal.returns-then-index-len-clause-grows
returns-then-index-len-clause-grows c =
    let pages = c.args.pages.now.items in
    let a = c.args.address in
    let page = c.index_mut-page.result.now in
    let bytes : page.items ≡ page_of pages (a / 65536) = ap (λ v. v.items) c.index_mut-page.ensures.value ∙ page_of-get pages (a / 65536) page c.requires.there in
    let size : length (with_item page (a % 65536) c.args.byte).items ≡ length (page_of pages (a / 65536)) = length-set page.items (a % 65536) c.args.byte ∙ ap length bytes in
    grows_set pages (a / 65536) (with_item page (a % 65536) c.args.byte) c.requires.there (omega arith) (λ are some. size ∙ are (a / 65536) (λ none. some (size ∙ none)))

pub returns-else-index-len-clause-bytes : goal.returns-else-index-len-clause-bytes
returns-else-index-len-clause-bytes c =
    let pages = c.args.pages.now.items in
    let a = c.args.address in
    let page = c.index_mut-page.result.now in
    let bytes : page.items ≡ page_of pages (a / 65536) = ap (λ v. v.items) c.index_mut-page.ensures.value ∙ page_of-get pages (a / 65536) page c.requires.there in
    let past : length page.items ≤ a % 65536 = omega arith in
    let outside : length (page_of pages (a / 65536)) ≤ a % 65536 = rw (← bytes) past in
    let none : c.args.byte ≡ 0 = zero_or_there c.args.byte (a % 65536) (length (page_of pages (a / 65536))) outside c.requires.fits in
    stored pages page a c.args.byte c.requires.low c.requires.there (changed_not pages page.items a c.args.byte bytes past none)
