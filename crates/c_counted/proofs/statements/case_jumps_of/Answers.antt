use Rattle.std.proofs.Common.{◌≡◌, ◌<◌, ◌≤◌, ◌+◌, List, map, drop, get_or, length, refl, ap, subst, ◌∙◌}
use Rattle.std.proofs.lemmas.List.{drop_all}
use Rattle.c_syntax.specs.Plain.{parts}
use Rattle.c_syntax.specs.View.{part_of}
use Rattle.c_syntax.specs.declared.tree.Part.{Part}
use Rattle.c_lowered.specs.Counts.{case_jumps}
use Rattle.c_counted.specs.Rows.{parts_of, label_jumps}
use Rattle.c_counted.proofs.GoingLemmas.{begun, goes_on, done}
use Rattle.c_counted.proofs.RowLemmas.{drop_at, cases_more}
use Rattle.c_counted.proofs.statements.case_jumps_of.Goals as goal

pub loop-part-init : goal.loop-part-init
loop-part-init c =
    let all = c.args.all.now in
    begun (case_jumps (parts_of all)) (case_jumps (parts_of all)) refl

pub loop-part-preserved : goal.loop-part-preserved
loop-part-preserved c =
    let items = c.args.all.now.items.items in
    let i = c.loop-part.part-index in
    let x = c.part-item.result in
    let within : i < length items = subst (λ (l : List Part). i < length l) c.deref-part-items.ensures.value c.loop-part-test.true in
    let next : x ≡ get_or items i x = subst (λ (l : List Part). x ≡ get_or l i x) c.deref-part-items.ensures.value c.part-item.is in
    goes_on c.loop-part.sum c.label_jumps_of.result c.plus-sum.result (case_jumps (parts (map part_of (drop i items)))) (label_jumps (part_of x)) (case_jumps (parts (map part_of (drop (i + 1) items)))) (case_jumps (parts_of c.args.all.now))
    c.loop-part.invariant c.label_jumps_of.ensures c.plus-sum.ensures (ap (λ (l : List Part). case_jumps (parts (map part_of l))) (drop_at items i x within next) ∙ cases_more (part_of x) (parts (map part_of (drop (i + 1) items))))

pub returns : goal.returns
returns c =
    let items = c.args.all.now.items.items in
    let i = c.loop-part.part-index in
    let past : length items ≤ i = subst (λ (l : List Part). length l ≤ i) c.deref-part-items.ensures.value c.loop-part-test.false in
    done c.loop-part.sum (case_jumps (parts (map part_of (drop i items)))) (case_jumps (parts_of c.args.all.now)) c.loop-part.invariant (ap (λ (l : List Part). case_jumps (parts (map part_of l))) (drop_all i items past))
