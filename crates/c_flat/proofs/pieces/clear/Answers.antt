use Rattle.std.proofs.Common.{◌≡◌, List, ◌++◌, map, refl, sym, ap, ◌∙◌}
use Rattle.c_store.specs.declared.kind.Kind.{Kind}
use Rattle.c_resolved.specs.Same.{kind_in}
use Rattle.c_eval.specs.Environment.{slot_kinds}
use Rattle.c_declared.specs.Slots.{behind}
use Rattle.c_declarations.proofs.GoingLemmas.{slots_at}
use Rattle.c_code.specs.Code as code
use Rattle.c_emitted.proofs.EmitLemmas.{on_ok, both}
use Rattle.c_flat.proofs.pieces.clear.Goals as goal

pub returns : goal.returns
returns c = λ s tags are structs.
    let left = slot_kinds tags (behind c.args.from s) in
    let table = c.args.types.now in
    let d = c.args.declared.now in
    let at = slots_at table d.layouts.items c.as_slice.result.now c.args.slots s (sym c.as_slice.ensures.value) are in
    let kinds : map kind_in c.as_slice-2.result.now ≡ left =
    ap (map kind_in) c.as_slice-2.ensures.value ∙ (c.in_ok-add_left.ensures s tags at structs ∙ ap (λ (l : List Kind). map kind_in l ++ left) c.new-kinds.ensures.items) in
    on_ok c.add.result (λ emits. both c.in_ok-span.ensures.emits emits)
    (c.add.ensures (code.Clear c.args.slot c.args.offset left) (record { means = λ names p more. ((refl, refl), ap (map kind_in) (c.in_ok-span.ensures.span.is names p more) ∙ kinds) }))
