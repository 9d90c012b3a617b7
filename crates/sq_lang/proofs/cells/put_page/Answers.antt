use Rattle.std.proofs.Common.{set, ap, ◌∙◌, w64}
use Rattle.std.proofs.lemmas.Int.{to_z-of_z}
use Rattle.sq_lang.proofs.Paged.{front_cells, front_put}
use Rattle.sq_lang.proofs.cells.put_page.Goals as goal

pub returns-then-k-lt-SIZE-clause-cells : goal.returns-then-k-lt-SIZE-clause-cells
returns-then-k-lt-SIZE-clause-cells c =
    let same = to_z-of_z w64 c.args.value c.ranges.value in
    front_put c.args.front.now.items c.args.behind.now.entries c.args.k c.args.index c.args.value c.index_mut.result.now c.put_in.new.page c.requires c.if-k-lt-SIZE.true c.index_mut.ensures.value
    (c.put_in.ensures.cells ∙ ap (set c.index_mut.result.now.items c.args.index) same)

pub returns-then-k-lt-SIZE-clause-done : goal.returns-then-k-lt-SIZE-clause-done
returns-then-k-lt-SIZE-clause-done c = rw (to_z-of_z w64 c.args.value c.ranges.value, front_cells c.args.front.now.items c.args.behind.now.entries c.args.k c.index_mut.result.now c.requires c.if-k-lt-SIZE.true c.index_mut.ensures.value) at c.put_in.ensures.done

pub returns-then-k-lt-SIZE-clause-not : goal.returns-then-k-lt-SIZE-clause-not
returns-then-k-lt-SIZE-clause-not c = rw (to_z-of_z w64 c.args.value c.ranges.value, front_cells c.args.front.now.items c.args.behind.now.entries c.args.k c.index_mut.result.now c.requires c.if-k-lt-SIZE.true c.index_mut.ensures.value) at c.put_in.ensures.not

pub returns-clause-cells : goal.returns-clause-cells
returns-clause-cells c = rw (to_z-of_z w64 c.args.value c.ranges.value) at (c.put_behind.ensures.cells c.args.front.now.items)

pub returns-clause-done : goal.returns-clause-done
returns-clause-done c = λ done. (rw (to_z-of_z w64 c.args.value c.ranges.value) at c.put_behind.ensures.done) done c.args.front.now.items

pub returns-clause-not : goal.returns-clause-not
returns-clause-not c = λ full. (rw (to_z-of_z w64 c.args.value c.ranges.value) at c.put_behind.ensures.not) full c.args.front.now.items
