use Rattle.std.proofs.Common.{◌≡◌, ℕ, List, ◌++◌, map, length, replicate, sym, ap, subst, ◌∙◌, arith}
use Rattle.std.proofs.lemmas.List.{length-map}
use Rattle.std.specs.Prelude.{OnOk}
use Rattle.c_store.specs.declared.kind.Kind as rust
use Rattle.c_eval.specs.Memory.{Kind}
use Rattle.c_resolved.specs.Same.{kind_in}
use Rattle.c_eval.specs.Environment.{slot_kinds}
use Rattle.c_declared.specs.Slots.{behind}
use Rattle.c_declarations.proofs.GoingLemmas.{slots_at}
use Rattle.c_lowered.specs.Whole.{words_from}
use Rattle.c_lower_data.proofs.statics.add_rest.Goals as goal

pub returns : goal.returns
returns c = λ s tags are structs.
    let left = slot_kinds tags (behind c.args.from s) in
    let table = c.args.out.now.types in
    let layouts = c.args.here.now.declared.layouts.items in
    let kinds = c.add_left.new.kinds.items in
    let at = slots_at table layouts c.as_slice-layouts.result.now c.args.slots s (sym c.as_slice-layouts.ensures.value) are in
    let all : map kind_in kinds ≡ left = c.in_ok-add_left.ensures s tags at structs ∙ ap (λ (l : List rust.Kind). map kind_in l ++ left) c.new-kinds.ensures.items in
    let many : length kinds ≡ length left = sym (length-map kinds kind_in) ∙ ap (λ (l : List Kind). length l) all in
    let count : c.len-count.result ≡ length kinds = omega arith in
    subst (λ (k : ℕ). OnOk c.add_zeros.result (c.add_zeros.new.words.items ≡ c.args.words.now.items ++ words_from (replicate k 0))) (count ∙ many) c.add_zeros.ensures
