use Rattle.std.proofs.Common.{◌≡◌, ◌+◌, ◌/◌, ◌%◌, ◌≤◌, ap, ◌∙◌, arith}
use Rattle.wasm_parts.specs.Inside.{page_of}
use Rattle.wasm_parts.proofs.Paged.{page_of-get}
use Rattle.wasm_parts.proofs.InPage.{at_most}
use Rattle.wasm_parts.proofs.memory.is_in_page.Goals as goal

pub returns : goal.returns
returns c = λ yes.
    let pages = c.args.pages.now.items in
    let k = c.args.address / 65536 in
    let page = c.index.result.now in
    let bytes : page.items ≡ page_of pages k = ap (λ v. v.items) c.index.ensures ∙ page_of-get pages k page c.requires in
    let enough : c.args.address % 65536 + 4 ≤ c.len.result = at_most _ _ yes in
    rw (← bytes) (omega (arith, enough))
