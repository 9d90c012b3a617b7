use Rattle.std.proofs.Common.{◌≡◌, ℕ, List, ◌++◌, map, length, replicate, sym, ap, subst, ◌∙◌, arith}
use Rattle.std.proofs.lemmas.List.{length-map}
use Rattle.std.specs.Prelude.{OnOk}
use Rattle.c_store.specs.declared.kind.Kind as rust
use Rattle.c_eval.specs.Memory.{Kind}
use Rattle.c_resolved.specs.Same.{kind_in}
use Rattle.c_eval.specs.Environment.{slot_kinds}
use Rattle.c_declared.specs.Slots.{behind}
use Rattle.c_declarations.proofs.GoingLemmas.{slots_at}
use Rattle.c_lowered.specs.Statements.{spelled}
use Rattle.c_addressing.specs.Here.{Emits}
use Rattle.c_applied.proofs.LeadsLemmas.{on_ok, kept, same_number}
use Rattle.c_lower_values.proofs.pieces.clear.Goals as goal

pub returns-clause-code : goal.returns-clause-code
returns-clause-code c = λ s tags n are structs h.
    let left = slot_kinds tags (behind c.args.from s) in
    let table = c.args.out.now.types in
    let layouts = c.args.here.now.declared.layouts.items in
    let kinds = c.add_left.new.kinds.items in
    let at = slots_at table layouts c.as_slice-layouts.result.now c.args.slots s (sym c.as_slice-layouts.ensures.value) are in
    let all : map kind_in kinds ≡ left = c.in_ok-add_left.ensures s tags at structs ∙ ap (λ (l : List rust.Kind). map kind_in l ++ left) c.new-kinds.ensures.items in
    let many : length kinds ≡ length left = sym (length-map kinds kind_in) ∙ ap (λ (l : List Kind). length l) all in
    let count : c.len-count.result ≡ length kinds = omega arith in
    subst (λ (k : ℕ). OnOk c.spell_zeros.result (Emits c.args.out.now c.spell_zeros.new.out (spelled (replicate k 0) n) 0)) (count ∙ many) (c.spell_zeros.ensures n h)

pub returns-clause-keeps : goal.returns-clause-keeps
returns-clause-keeps c = on_ok c.spell_zeros.result (λ e. kept e) (c.spell_zeros.ensures c.args.at (same_number c.args.at))
