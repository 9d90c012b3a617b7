use Rattle.std.proofs.Common.{◌≡◌, ◌*◌, ◌/◌, ◌%◌, ◌<◌, length, set, pos, ap, subst, ◌∙◌, arith, int_cmp, w64, to_z, of_z}
use Rattle.std.proofs.lemmas.Int.{to_z-of_z}
use Rattle.std.proofs.lemmas.List.{length-set, length-replicate}
use Rattle.std.specs.Vec.{with_item}
use Rattle.std.specs.FinMap as map
use Rattle.mach_core.specs.Sparse.{value_at, with_value}
use Rattle.mach_core.specs.Integer.{is_zero}
use Rattle.ws_lang.specs.Pages.{index_of, heap_of, IsBlank}
use Rattle.ws_lang.proofs.PageLemmas.{paged_set, stored, changed_blank}
use Rattle.ws_lang.proofs.heap.Heap.set.Goals as goal

pub invariant_of-self : goal.invariant_of-self
invariant_of-self c =
    let low : c.in-Some.at < 4097 * 4096 = c.in-Some.ensures.1 in
    paged_set c.self.inside.pages.items (c.in-Some.at / 4096) _ c.self.invariant (omega arith) (λ _. length-set c.in_ok-page.page.items (c.in-Some.at % 4096) (to_z w64 (of_z w64 c.args.value)) ∙ (ap length (c.in_ok-page.ensures.items_if_clones_equal (λ y e. e)) ∙ length-replicate 4096 (pos 0)))

pub returns-clause-ok : goal.returns-clause-ok
returns-clause-ok c =
    let pages = c.self.inside.pages.items in
    let entries = c.self.inside.far.entries in
    let far = map.from_entries {R = int_cmp} entries in
    let k = c.in-Some.at in
    let fits = to_z-of_z w64 c.args.address c.ranges.address in
    let same = c.in-Some.ensures.0 ∙ ap index_of fits in
    let low : k < 4097 * 4096 = c.in-Some.ensures.1 in
    let near : index_of c.args.address < 4097 * 4096 = subst (λ n. n < 4097 * 4096) same low in
    let v = to_z w64 (of_z w64 c.args.value) in
    let page = with_item c.in_ok-page.page (k % 4096) v in
    let view : heap_of pages far ≡ c.args.self.now = c.self.view_is ∙ c.put.ensures.not c.if-put.false in
    let zeros = subst (λ z. index_of z < 4097 * 4096 → IsBlank c.args.self.now z) fits (c.put.ensures.cause c.if-put.false) near in
    stored pages far page c.args.address v k c.self.invariant same low
    (changed_blank pages far page c.args.address v k same low (λ q here. ap (λ m. value_at (pos 0) m q) view ∙ zeros q here) (ap (λ vs. set vs (k % 4096) v) (c.in_ok-page.ensures.items_if_clones_equal (λ y e. e))))
    ∙ (ap (λ w. with_value is_zero (heap_of pages far) c.args.address w) (to_z-of_z w64 c.args.value c.ranges.value) ∙ ap (λ m. with_value is_zero m c.args.address c.args.value) view)
