use Rattle.std.proofs.Common.{◌≡◌, ◌<◌, ◌≤◌, ◌+◌, List, map, drop, get_or, length, ap, sym, subst}
use Rattle.std.proofs.lemmas.List.{drop_all}
use Rattle.c_syntax.specs.Plain.{parts}
use Rattle.c_syntax.specs.View.{part_of}
use Rattle.c_syntax.specs.declared.tree.Part.{Part}
use Rattle.c_lowered.specs.Counts.{part_jumps}
use Rattle.c_counted.specs.Rows.{parts_of}
use Rattle.c_counted.proofs.RowLemmas.{drop_at}
use Rattle.c_lower_statements.proofs.CaseLemmas.{seeking_begun, seeking_more, default_found, default_missing}
use Rattle.c_lower_statements.proofs.switches.default_block.Goals as goal

pub loop-part-init : goal.loop-part-init
loop-part-init c = seeking_begun c.args.k (parts_of c.args.parts.now)

pub loop-part-preserved : goal.loop-part-preserved
loop-part-preserved c =
    let l = c.loop-part in
    let items = c.args.parts.now.items.items in
    let i = l.part-index in
    let next = c.part-item.result in
    let within : i < length items = subst (λ (x : List Part). i < length x) c.deref-part-items.ensures.value c.loop-part-test.true in
    let there : next ≡ get_or items i next = subst (λ (x : List Part). next ≡ get_or x i next) c.deref-part-items.ensures.value c.part-item.is in
    seeking_more c.args.k l.block c.plus-block.result (parts (map part_of (drop i items))) (parts (map part_of (drop (i + 1) items))) (parts_of c.args.parts.now) (part_of next) (ap (λ (x : List Part). parts (map part_of x)) (drop_at items i next within there))
    (sym c.if-is_default.ensures) (λ m hm. c.plus-block.ensures m (part_jumps (part_of next)) hm c.part_jumps_of.ensures) l.invariant

pub returns-then-is_default : goal.returns-then-is_default
returns-then-is_default c = λ m n hm hn.
    let l = c.loop-part in
    let items = c.args.parts.now.items.items in
    let i = l.part-index in
    let next = c.part-item.result in
    let within : i < length items = subst (λ (x : List Part). i < length x) c.deref-part-items.ensures.value c.loop-part-test.true in
    let there : next ≡ get_or items i next = subst (λ (x : List Part). next ≡ get_or x i next) c.deref-part-items.ensures.value c.part-item.is in
    default_found c.args.k l.block c.next.result (parts (map part_of (drop i items))) (parts (map part_of (drop (i + 1) items))) (parts_of c.args.parts.now) (part_of next) (ap (λ (x : List Part). parts (map part_of x)) (drop_at items i next within there))
    (sym c.if-is_default.ensures) (λ j hj. c.next.ensures j hj) l.invariant m n hm

pub returns : goal.returns
returns c = λ m n hm hn.
    let l = c.loop-part in
    let items = c.args.parts.now.items.items in
    let past : length items ≤ l.part-index = subst (λ (x : List Part). length x ≤ l.part-index) c.deref-part-items.ensures.value c.loop-part-test.false in
    default_missing c.args.k l.block c.args.end (parts (map part_of (drop l.part-index items))) (parts_of c.args.parts.now) (ap (λ (x : List Part). parts (map part_of x)) (drop_all l.part-index items past)) l.invariant m n hm hn
