use Rattle.std.proofs.Common.{set, ap, ◌∙◌, w64, arith, rules}
use Rattle.sq_lang.specs.Pages.{page_at}
use Rattle.std.proofs.lemmas.Int.{to_z-of_z}
use Rattle.sq_lang.proofs.Paged.{behind_cells, behind_put, behind_none, none_put}
use Rattle.sq_lang.proofs.cells.put_behind.Goals as goal

pub returns-in-Some-clause-cells : goal.returns-in-Some-clause-cells
returns-in-Some-clause-cells c = λ front.
    let same = to_z-of_z w64 c.args.value c.ranges.value in
    behind_put front c.args.behind.now.entries (c.get_mut.follows.lender c.put_in.new.page).entries c.args.k c.args.index c.args.value c.in-Some.page.now c.put_in.new.page c.requires c.in-Some.ensures.value
    (c.put_in.ensures.cells ∙ ap (set c.in-Some.page.now.items c.args.index) same) (((c.get_mut.follows.holds c.put_in.new.page).3 (search rules)).0)

pub returns-in-Some-clause-done : goal.returns-in-Some-clause-done
returns-in-Some-clause-done c = λ told front. (rw (to_z-of_z w64 c.args.value c.ranges.value, behind_cells front c.args.behind.now.entries c.args.k c.in-Some.page.now c.requires c.in-Some.ensures.value) at c.put_in.ensures.done) told

pub returns-in-Some-clause-not : goal.returns-in-Some-clause-not
returns-in-Some-clause-not c = λ told front. (rw (to_z-of_z w64 c.args.value c.ranges.value, behind_cells front c.args.behind.now.entries c.args.k c.in-Some.page.now c.requires c.in-Some.ensures.value) at c.put_in.ensures.not) told

pub returns-in-None-clause-cells : goal.returns-in-None-clause-cells
returns-in-None-clause-cells c = λ front.
    let none = behind_none front c.args.behind.now.entries c.args.k c.requires c.in-None.ensures.value in
    let P = page_at front in
    rw (c.get_mut.follows.holds-at-none) (none_put (P c.args.behind.now.entries) c.args.k c.args.index c.args.value none)

pub returns-in-None-clause-not : goal.returns-in-None-clause-not
returns-in-None-clause-not c = λ some front.
    let none = behind_none front c.args.behind.now.entries c.args.k c.requires c.in-None.ensures.value in
    (rw none (omega arith), λ zero. absurd (search (rules, some, zero)))
