use Rattle.std.proofs.Common.{◌≡◌, ◌*◌, ◌/◌, ◌%◌, ◌<◌, ◌≤◌, length, pos, refl, sym, ap, ◌∙◌, arith, int_cmp, w64, to_z, of_z}
use Rattle.std.proofs.lemmas.Int.{to_z-of_z}
use Rattle.std.proofs.lemmas.List.{length-set}
use Rattle.std.specs.Vec.{with_item}
use Rattle.std.specs.FinMap as map
use Rattle.mach_core.specs.Sparse.{value_at, with_value}
use Rattle.mach_core.specs.Integer.{is_zero}
use Rattle.ws_lang.specs.Pages.{index_of, page_of, heap_of}
use Rattle.ws_lang.proofs.HeapLemmas.{zero_bits}
use Rattle.ws_lang.proofs.PageLemmas.{page_of-get, paged_set, stored, blank, changed_not, changed_value}
use Rattle.ws_lang.proofs.heap.Heap.put.Goals as goal

pub invariant_of-self : goal.invariant_of-self
invariant_of-self c =
    let pages = c.self.inside.pages.items in
    let entries = c.self.inside.far.entries in
    let far = map.from_entries {R = int_cmp} entries in
    let k = c.in-Some.at in
    let count = c.self.invariant.count in
    let same = c.in-Some.ensures.0 ∙ ap index_of (to_z-of_z w64 c.args.address c.ranges.address) in
    let low : k < 4097 * 4096 = c.in-Some.ensures.1 in
    let there : k / 4096 < length pages = omega arith in
    let page = c.index_mut-page.result.now in
    let values : page.items ≡ page_of pages (k / 4096) = ap (λ v. v.items) c.index_mut-page.ensures.value ∙ page_of-get pages (k / 4096) page there in
    let size = length-set page.items (k % 4096) (to_z w64 (of_z w64 c.args.value)) ∙ ap length values in
    paged_set pages (k / 4096) _ c.self.invariant (omega arith) (λ some. size ∙ c.self.invariant.whole (k / 4096) (λ none. some (size ∙ none)))

pub returns-then-place-len-clause-done : goal.returns-then-place-len-clause-done
returns-then-place-len-clause-done c =
    let pages = c.self.inside.pages.items in
    let entries = c.self.inside.far.entries in
    let far = map.from_entries {R = int_cmp} entries in
    let k = c.in-Some.at in
    let count = c.self.invariant.count in
    let same = c.in-Some.ensures.0 ∙ ap index_of (to_z-of_z w64 c.args.address c.ranges.address) in
    let low : k < 4097 * 4096 = c.in-Some.ensures.1 in
    let there : k / 4096 < length pages = omega arith in
    let page = c.index_mut-page.result.now in
    let values : page.items ≡ page_of pages (k / 4096) = ap (λ v. v.items) c.index_mut-page.ensures.value ∙ page_of-get pages (k / 4096) page there in
    let v = to_z w64 (of_z w64 c.args.value) in
    let within : k % 4096 < length page.items = omega arith in
    λ _. stored pages far (with_item page (k % 4096) v) c.args.address v k c.self.invariant same low (changed_value pages page (with_item page (k % 4096) v) k v values within refl)
    ∙ (ap (λ w. with_value is_zero (heap_of pages far) c.args.address w) (to_z-of_z w64 c.args.value c.ranges.value) ∙ ap (λ m. with_value is_zero m c.args.address c.args.value) c.self.view_is)

pub returns-clause-done : goal.returns-clause-done
returns-clause-done c =
    let pages = c.self.inside.pages.items in
    let entries = c.self.inside.far.entries in
    let far = map.from_entries {R = int_cmp} entries in
    let k = c.in-Some.at in
    let count = c.self.invariant.count in
    let same = c.in-Some.ensures.0 ∙ ap index_of (to_z-of_z w64 c.args.address c.ranges.address) in
    let low : k < 4097 * 4096 = c.in-Some.ensures.1 in
    let there : k / 4096 < length pages = omega arith in
    let page = c.index_mut-page.result.now in
    let values : page.items ≡ page_of pages (k / 4096) = ap (λ v. v.items) c.index_mut-page.ensures.value ∙ page_of-get pages (k / 4096) page there in
    let past : length page.items ≤ k % 4096 = omega arith in
    λ zero.
    let bits : of_z w64 c.args.value ≡ 0 = grind arith in
    stored pages far page c.args.address c.args.value k c.self.invariant same low (changed_not pages page k c.args.value values past (zero_bits c.args.value c.ranges.value bits))
    ∙ ap (λ m. with_value is_zero m c.args.address c.args.value) c.self.view_is

pub returns-clause-cause : goal.returns-clause-cause
returns-clause-cause c =
    let pages = c.self.inside.pages.items in
    let entries = c.self.inside.far.entries in
    let far = map.from_entries {R = int_cmp} entries in
    let k = c.in-Some.at in
    let count = c.self.invariant.count in
    let same = c.in-Some.ensures.0 ∙ ap index_of (to_z-of_z w64 c.args.address c.ranges.address) in
    let low : k < 4097 * 4096 = c.in-Some.ensures.1 in
    let there : k / 4096 < length pages = omega arith in
    let page = c.index_mut-page.result.now in
    let values : page.items ≡ page_of pages (k / 4096) = ap (λ v. v.items) c.index_mut-page.ensures.value ∙ page_of-get pages (k / 4096) page there in
    let past : length (page_of pages (k / 4096)) ≤ k % 4096 = rw (← values) (omega arith) in
    λ some near q here. ap (λ m. value_at (pos 0) m q) (sym c.self.view_is) ∙ blank pages far c.args.address k c.self.invariant same low past q here
