use Rattle.std.proofs.Common.{◌≡◌, ◌*◌, ◌/◌, ◌%◌, ◌^◌, ◌<◌, length, get_or, sym, ap, ◌∙◌, arith}
use Rattle.std.proofs.lemmas.List.{get_or_past}
use Rattle.wasm_rule.specs.Memory.{Memory, byte_at}
use Rattle.wasm_parts.specs.Inside.{page_of}
use Rattle.wasm_parts.proofs.Paged.{page_of-get, loaded}
use Rattle.wasm_parts.proofs.memory.Pages.byte.Goals as goal

pub returns-then-index-page : goal.returns-then-index-page
returns-then-index-page c =
    let pages = c.self.inside.pages.items in
    let a = c.args.address in
    let count : c.self.inside.count ≡ c.args.self.now.pages = ap (λ (m : Memory). m.pages) c.self.view_is in
    let there : a / 65536 < length pages = omega (arith, count, c.requires, c.self.invariant.there) in
    let low : a < 2 ^ 48 = omega (arith, count, c.requires, c.self.invariant.few) in
    let bytes = c.as_slice-page.ensures.value ∙ (ap (λ v. v.items) c.index.ensures ∙ page_of-get pages (a / 65536) c.index.result.now there) in
    ap (λ bs. get_or bs (a % 65536) 0) bytes ∙ (sym (loaded pages a low) ∙ ap (λ (m : Memory). byte_at m.bytes a) c.self.view_is)

pub returns-else-index-page : goal.returns-else-index-page
returns-else-index-page c =
    let pages = c.self.inside.pages.items in
    let a = c.args.address in
    let count : c.self.inside.count ≡ c.args.self.now.pages = ap (λ (m : Memory). m.pages) c.self.view_is in
    let there : a / 65536 < length pages = omega (arith, count, c.requires, c.self.invariant.there) in
    let low : a < 2 ^ 48 = omega (arith, count, c.requires, c.self.invariant.few) in
    let bytes = c.as_slice-page.ensures.value ∙ (ap (λ v. v.items) c.index.ensures ∙ page_of-get pages (a / 65536) c.index.result.now there) in
    sym (get_or_past c.as_slice-page.result.now (a % 65536) 0 c.if-index-page.false)
    ∙ (ap (λ bs. get_or bs (a % 65536) 0) bytes ∙ (sym (loaded pages a low) ∙ ap (λ (m : Memory). byte_at m.bytes a) c.self.view_is))
