use Rattle.std.proofs.Common.{pos, sym, ap, ◌∙◌, unwrap_or, rules, w64, int_cmp}
use mir.Val.{SFits}
use Rattle.std.proofs.lemmas.Int.{to_z-of_z}
use Rattle.std.specs.FinMap as map
use Rattle.mach_core.specs.Sparse.{value_at}
use Rattle.ws_lang.proofs.HeapLemmas.{value_at-entries, at_address}
use Rattle.ws_lang.proofs.PageLemmas.{loaded_far}
use Rattle.ws_lang.proofs.heap.Heap.get_far.Goals as goal

pub returns-in-Some : goal.returns-in-Some
returns-in-Some c =
    let pages = c.self.inside.pages.items in
    let entries = c.self.inside.far.entries in
    let far = map.from_entries {R = int_cmp} entries in
    let f : SFits w64 c.in-Some.value.now = search rules in
    to_z-of_z w64 c.in-Some.value.now f
    ∙ (ap (λ o. unwrap_or o (pos 0)) (c.in-Some.ensures.value ∙ at_address entries c.args.address c.ranges.address)
    ∙ (sym (value_at-entries entries c.args.address)
    ∙ (sym (loaded_far pages far c.args.address c.requires) ∙ ap (λ m. value_at (pos 0) m c.args.address) c.self.view_is)))

pub returns-in-None : goal.returns-in-None
returns-in-None c =
    let pages = c.self.inside.pages.items in
    let entries = c.self.inside.far.entries in
    let far = map.from_entries {R = int_cmp} entries in
    ap (λ o. unwrap_or o (pos 0)) (c.in-None.ensures.value ∙ at_address entries c.args.address c.ranges.address)
    ∙ (sym (value_at-entries entries c.args.address)
    ∙ (sym (loaded_far pages far c.args.address c.requires) ∙ ap (λ m. value_at (pos 0) m c.args.address) c.self.view_is))
