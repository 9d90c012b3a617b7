use Rattle.std.proofs.Common.{◌≡◌, ◌*◌, ◌/◌, ◌%◌, ◌<◌, length, get_or, pos, sym, ap, ◌∙◌, rules, arith, int_cmp, w64}
use mir.Val.{SFits}
use Rattle.std.proofs.lemmas.Int.{to_z-of_z}
use Rattle.std.specs.FinMap as map
use Rattle.mach_core.specs.Sparse.{value_at}
use Rattle.ws_lang.specs.Pages.{index_of, page_of}
use Rattle.ws_lang.proofs.PageLemmas.{page_of-get, get_or-past, loaded}
use Rattle.ws_lang.proofs.heap.Heap.get.Goals as goal

pub returns-then-place-page : goal.returns-then-place-page
returns-then-place-page c =
    let pages = c.self.inside.pages.items in
    let entries = c.self.inside.far.entries in
    let far = map.from_entries {R = int_cmp} entries in
    let k = c.in-Some.at in
    let count = c.self.invariant.count in
    let same = c.in-Some.ensures.0 ∙ ap index_of (to_z-of_z w64 c.args.address c.ranges.address) in
    let low : k < 4097 * 4096 = c.in-Some.ensures.1 in
    let there : k / 4096 < length pages = omega arith in
    let values : c.as_slice-page.result.now ≡ page_of pages (k / 4096) = c.as_slice-page.ensures.value ∙ (ap (λ v. v.items) c.index.ensures ∙ page_of-get pages (k / 4096) c.index.result.now there) in
    let x = get_or c.as_slice-page.result.now (k % 4096) (pos 0) in
    let f : SFits w64 x = search rules in
    to_z-of_z w64 x f ∙ (ap (λ vs. get_or vs (k % 4096) (pos 0)) values ∙ (sym (loaded pages far c.args.address k same low) ∙ ap (λ m. value_at (pos 0) m c.args.address) c.self.view_is))

pub returns-else-place-page : goal.returns-else-place-page
returns-else-place-page c =
    let pages = c.self.inside.pages.items in
    let entries = c.self.inside.far.entries in
    let far = map.from_entries {R = int_cmp} entries in
    let k = c.in-Some.at in
    let count = c.self.invariant.count in
    let same = c.in-Some.ensures.0 ∙ ap index_of (to_z-of_z w64 c.args.address c.ranges.address) in
    let low : k < 4097 * 4096 = c.in-Some.ensures.1 in
    let there : k / 4096 < length pages = omega arith in
    let values : c.as_slice-page.result.now ≡ page_of pages (k / 4096) = c.as_slice-page.ensures.value ∙ (ap (λ v. v.items) c.index.ensures ∙ page_of-get pages (k / 4096) c.index.result.now there) in
    sym (get_or-past c.as_slice-page.result.now (k % 4096) c.if-place-page.false) ∙ (ap (λ vs. get_or vs (k % 4096) (pos 0)) values ∙ (sym (loaded pages far c.args.address k same low) ∙ ap (λ m. value_at (pos 0) m c.args.address) c.self.view_is))
