use Rattle.std.proofs.Common.{Some, None, cond, ap, ◌∙◌, w64, to_z, of_z, int_cmp}
use Rattle.std.proofs.lemmas.Int.{to_z-of_z}
use Rattle.std.specs.FinMap as map
use Rattle.std.specs.Map.{lookup}
use Rattle.std.specs.BTreeMap.{is_at}
use Rattle.mach_core.specs.Sparse.{with_value}
use Rattle.mach_core.specs.Integer.{is_zero}
use Rattle.ws_lang.specs.Pages.{heap_of}
use Rattle.ws_lang.proofs.HeapLemmas.{with_value-zero, with_value-other, zero_bits}
use Rattle.ws_lang.proofs.PageLemmas.{stored_far}
use Rattle.ws_lang.proofs.heap.Heap.set_far.Goals as goal

pub returns-then-value-eq0-clause-ok : goal.returns-then-value-eq0-clause-ok
returns-then-value-eq0-clause-ok c =
    let pages = c.self.inside.pages.items in
    let entries = c.self.inside.far.entries in
    let far = map.from_entries {R = int_cmp} entries in
    ap (heap_of pages) (with_value-zero entries c.remove-old.new.self.entries c.args.address c.args.value (zero_bits c.args.value c.ranges.value c.if-value-eq0.true)
    (λ q. c.remove-old.ensures.updates.0 q ∙ ap (λ a. cond (is_at (int_cmp a) q) None (lookup (is_at (int_cmp q)) entries)) (to_z-of_z w64 c.args.address c.ranges.address)))
    ∙ (stored_far pages far c.args.address c.args.value c.requires ∙ ap (λ m. with_value is_zero m c.args.address c.args.value) c.self.view_is)

pub returns-in_ok-insert-clause-ok : goal.returns-in_ok-insert-clause-ok
returns-in_ok-insert-clause-ok c =
    let pages = c.self.inside.pages.items in
    let entries = c.self.inside.far.entries in
    let far = map.from_entries {R = int_cmp} entries in
    ap (heap_of pages) (with_value-other entries c.insert.new.self.entries c.args.address c.args.value (λ e. c.if-value-eq0.false (ap (of_z w64) e))
    (λ q. c.in_ok-insert.ensures.updates.0 q
    ∙ ap (λ a. cond (is_at (int_cmp a) q) (Some (to_z w64 (of_z w64 c.args.value))) (lookup (is_at (int_cmp q)) entries)) (to_z-of_z w64 c.args.address c.ranges.address)
    ∙ ap (λ v. cond (is_at (int_cmp c.args.address) q) (Some v) (lookup (is_at (int_cmp q)) entries)) (to_z-of_z w64 c.args.value c.ranges.value)))
    ∙ (stored_far pages far c.args.address c.args.value c.requires ∙ ap (λ m. with_value is_zero m c.args.address c.args.value) c.self.view_is)
