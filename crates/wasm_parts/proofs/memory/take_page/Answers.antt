use Rattle.std.proofs.Common.{◌≡◌, ◌≢◌, ◌/◌, ◌%◌, ◌<◌, ◌≤◌, length, vec_len, ap, ◌∙◌, arith}
use Rattle.wasm_parts.specs.Inside.{page_of}
use Rattle.wasm_parts.proofs.Paged.{page_of-get, page_of-set_same, zeros_count, same_zeros, grows_set, blank}
use Rattle.wasm_parts.proofs.Fits.{some_of, none_of, on_err_always}
use Rattle.wasm_parts.proofs.memory.take_page.Goals as goal

pub returns-then-not-is_empty-clause-has : goal.returns-then-not-is_empty-clause-has
returns-then-not-is_empty-clause-has c = λ some.
    let pages = c.args.pages.now.items in
    let k = c.args.address / 65536 in
    let page = c.index.result.now in
    let bytes : page.items ≡ page_of pages k = ap (λ v. v.items) c.index.ensures ∙ page_of-get pages k page c.requires.there in
    let there : 0 < vec_len page = some_of (vec_len page) c.is_empty.result c.is_empty.ensures c.if-not-is_empty.true in
    let size : length (page_of pages k) ≡ 65536 = c.requires.whole k (λ none. let zero : length page.items ≡ 0 = ap length bytes ∙ none in omega arith) in
    omega arith

pub returns-in_err-page-clause-wants : goal.returns-in_err-page-clause-wants
returns-in_err-page-clause-wants c =
    let pages = c.args.pages.now.items in
    let k = c.args.address / 65536 in
    let page = c.index.result.now in
    let bytes : page.items ≡ page_of pages k = ap (λ v. v.items) c.index.ensures ∙ page_of-get pages k page c.requires.there in
    let gone : vec_len page ≡ 0 = none_of (vec_len page) c.is_empty.result c.is_empty.ensures c.if-not-is_empty.false in
    let none : length page.items ≡ 0 = omega arith in
    on_err_always c.from_residual.result ((λ zero. omega arith), blank pages c.args.address c.requires.low (rw (← bytes) none))

pub returns-clause-has : goal.returns-clause-has
returns-clause-has c = λ some.
    let pages = c.args.pages.now.items in
    let k = c.args.address / 65536 in
    let page = c.in_ok-page.page in
    let size : length page.items ≡ 65536 = zeros_count page.items 65536 (c.in_ok-page.ensures.items_if_clones_equal (λ y e. e)) in
    rw (page_of-set_same pages k page c.requires.there) (omega arith)

pub returns-clause-bytes : goal.returns-clause-bytes
returns-clause-bytes c =
    let pages = c.args.pages.now.items in
    let k = c.args.address / 65536 in
    let page = c.index.result.now in
    let bytes : page.items ≡ page_of pages k = ap (λ v. v.items) c.index.ensures ∙ page_of-get pages k page c.requires.there in
    let gone : vec_len page ≡ 0 = none_of (vec_len page) c.is_empty.result c.is_empty.ensures c.if-not-is_empty.false in
    let none : length page.items ≡ 0 = omega arith in
    let size : 65536 ≡ 65536 = omega arith in
    same_zeros pages k 65536 c.in_ok-page.page size c.requires.there (rw (← bytes) none) (c.in_ok-page.ensures.items_if_clones_equal (λ y e. e))

pub returns-clause-grows : goal.returns-clause-grows
returns-clause-grows c =
    let pages = c.args.pages.now.items in
    let k = c.args.address / 65536 in
    let page = c.index.result.now in
    let bytes : page.items ≡ page_of pages k = ap (λ v. v.items) c.index.ensures ∙ page_of-get pages k page c.requires.there in
    let gone : vec_len page ≡ 0 = none_of (vec_len page) c.is_empty.result c.is_empty.ensures c.if-not-is_empty.false in
    let none : length page.items ≡ 0 = omega arith in
    let size : length c.in_ok-page.page.items ≡ 65536 = zeros_count c.in_ok-page.page.items 65536 (c.in_ok-page.ensures.items_if_clones_equal (λ y e. e)) in
    grows_set pages k c.in_ok-page.page c.requires.there (rw (← bytes) (omega arith)) (λ are some. size)
