use Rattle.std.proofs.Common.{◌≡◌, ◌<◌, ◌≤◌, ◌+◌, List, map, drop, get_or, length, ap, subst}
use Rattle.std.proofs.lemmas.List.{drop_all}
use Rattle.c_syntax.specs.Plain.{parts}
use Rattle.c_syntax.specs.View.{part_of}
use Rattle.c_syntax.specs.declared.tree.Part.{Part}
use Rattle.c_lowered.specs.Counts.{part_jumps}
use Rattle.c_counted.specs.Rows.{parts_of}
use Rattle.c_counted.proofs.RowLemmas.{drop_at}
use Rattle.c_applied.proofs.LeadsLemmas.{some_on}
use Rattle.c_lower_statements.proofs.CaseLemmas.{casing_begun, casing_more, casing_places, casing_code}
use Rattle.c_lower_statements.proofs.switches.compare_all.Goals as goal

pub loop-part-init : goal.loop-part-init
loop-part-init c = casing_begun c.args.out.now c.args.here.now c.args.free c.args.k (parts_of c.args.parts.now) c.requires

pub compare-requires : goal.compare-requires
compare-requires c = c.loop-part.invariant.places.holds

pub place_part-requires : goal.place_part-requires
place_part-requires c = some_on c.loop-part.out c.compare.new.out c.loop-part.here.declared c.in_ok-compare.ensures.keeps c.loop-part.invariant.places.holds

pub loop-part-preserved : goal.loop-part-preserved
loop-part-preserved c =
    let l = c.loop-part in
    let items = c.args.parts.now.items.items in
    let i = l.part-index in
    let next = c.part-item.result in
    let within : i < length items = subst (λ (x : List Part). i < length x) c.deref-part-items.ensures.value c.loop-part-test.true in
    let there : next ≡ get_or items i next = subst (λ (x : List Part). next ≡ get_or x i next) c.deref-part-items.ensures.value c.part-item.is in
    casing_more c.args.out.now l.out c.compare.new.out c.place_part.new.out c.args.here.now l.here c.place_part.new.here c.args.free l.behind c.in_ok-behind.behind c.args.k l.block c.plus-block.result
    (parts (map part_of (drop i items))) (parts (map part_of (drop (i + 1) items))) (parts_of c.args.parts.now) (part_of next) (ap (λ (x : List Part). parts (map part_of x)) (drop_at items i next within there)) l.invariant
    c.in_ok-compare.ensures.keeps (λ m s holds hk. c.in_ok-compare.ensures.code m s holds hk) c.in_ok-behind.ensures.places c.in_ok-behind.ensures.still (λ m hm. c.plus-block.ensures m (part_jumps (part_of next)) hm c.part_jumps_of.ensures)

pub returns-clause-places : goal.returns-clause-places
returns-clause-places c =
    let l = c.loop-part in
    let items = c.args.parts.now.items.items in
    let past : length items ≤ l.part-index = subst (λ (x : List Part). length x ≤ l.part-index) c.deref-part-items.ensures.value c.loop-part-test.false in
    casing_places c.args.out.now l.out c.args.here.now l.here c.args.free l.behind c.args.k l.block (parts (map part_of (drop l.part-index items))) (parts_of c.args.parts.now) (ap (λ (x : List Part). parts (map part_of x)) (drop_all l.part-index items past)) l.invariant

pub returns-clause-cases : goal.returns-clause-cases
returns-clause-cases c = λ env m holds hk.
    let l = c.loop-part in
    let items = c.args.parts.now.items.items in
    let past : length items ≤ l.part-index = subst (λ (x : List Part). length x ≤ l.part-index) c.deref-part-items.ensures.value c.loop-part-test.false in
    casing_code c.args.out.now l.out c.args.here.now l.here c.args.free l.behind c.args.k l.block (parts (map part_of (drop l.part-index items))) (parts_of c.args.parts.now) (ap (λ (x : List Part). parts (map part_of x)) (drop_all l.part-index items past)) l.invariant env m holds hk
