use Rattle.std.proofs.Common.{◌≡◌, ◌+◌, ◌-◌, ◌*◌, ◌/◌, ◌<◌, ◌≤◌, length, vec_len, ap, ◌∙◌, arith}
use Rattle.wasm_parts.specs.Inside.{page_of}
use Rattle.wasm_parts.proofs.Paged.{page_of-get}
use Rattle.wasm_parts.proofs.Fits.{has_ends, some_of, not_true}
use Rattle.wasm_parts.proofs.memory.has_bytes.Goals as goal

pub returns-then-not-is_empty : goal.returns-then-not-is_empty
returns-then-not-is_empty c = λ yes word.
    let pages = c.args.pages.now.items in
    let a = c.args.address in
    let n = c.args.count in
    let some : 0 < n = omega arith in
    let few : n ≤ 4 = omega arith in
    let first_there : a / 65536 < length pages = omega (arith, c.requires.within) in
    let last_there : (a + (n - 1)) / 65536 < length pages = omega (arith, c.requires.within) in
    let first : 0 < vec_len c.index.result.now = some_of (vec_len c.index.result.now) c.is_empty.result c.is_empty.ensures c.if-not-is_empty.true in
    let last : 0 < vec_len c.index-then-not-is_empty.result.now = some_of (vec_len c.index-then-not-is_empty.result.now) c.is_empty-then-not-is_empty.result c.is_empty-then-not-is_empty.ensures (not_true c.is_empty-then-not-is_empty.result yes) in
    let first_page : c.index.result.now.items ≡ page_of pages (a / 65536) = ap (λ v. v.items) c.index.ensures ∙ page_of-get pages (a / 65536) c.index.result.now first_there in
    let last_page : c.index-then-not-is_empty.result.now.items ≡ page_of pages ((a + (n - 1)) / 65536) = ap (λ v. v.items) c.index-then-not-is_empty.ensures ∙ page_of-get pages ((a + (n - 1)) / 65536) c.index-then-not-is_empty.result.now last_there in
    has_ends pages a n c.requires.whole some few (rw (← first_page) (omega arith)) (rw (← last_page) (omega arith)) word
