use Rattle.std.proofs.Common.{◌≡◌, ◌^◌, ◌<◌, ◌%◌, ◌/◌, ap, ◌∙◌, w64, arith}
use Rattle.std.proofs.lemmas.Int.{to_z-of_z}
use Rattle.sq_lang.specs.Step.{cell_at, with_cell}
use Rattle.sq_lang.specs.Pages.{page_at, cells_of}
use Rattle.sq_lang.proofs.Paged.{stored, fresh, fresh_put, fresh_length, whole_set, cells_alike}
use Rattle.sq_lang.proofs.cells.Cells.set.Goals as goal

pub returns-in-Ok-clause-ok : goal.returns-in-Ok-clause-ok
returns-in-Ok-clause-ok c =
    let a = c.args.address in
    let same = to_z-of_z w64 c.args.value c.ranges.value in
    let are = fresh 4096 c.in_ok-page.page.items (c.in_ok-page.ensures.items_if_clones_equal (λ y e. e)) in
    let old = page_at c.self.inside.front.items c.self.inside.behind.entries in
    let new = page_at c.set_page.new.front.items c.set_page.new.behind.entries in
    let view : cells_of old ≡ c.args.self.now = c.self.view_is ∙ c.put.ensures.not c.if-put.false in
    let within : a < 2 ^ 64 = omega arith in
    let causes = (c.put.ensures.cause c.if-put.false).1 in
    stored old new a c.args.value within (fresh_put old new a c.args.value _ c.in_ok-page.page.items within (λ q page. ap (λ m. cell_at m q) view ∙ causes q page) are same c.in-Ok.ensures.ok)
    ∙ ap (λ m. with_cell m a c.args.value) view

pub returns-in-Err-clause-err : goal.returns-in-Err-clause-err
returns-in-Err-clause-err c =
    cells_alike (page_at c.self.inside.front.items c.self.inside.behind.entries) (page_at c.set_page.new.front.items c.set_page.new.behind.entries) c.in-Err.ensures.err
    ∙ (c.self.view_is ∙ c.put.ensures.not c.if-put.false)

pub invariant_of-self : goal.invariant_of-self
invariant_of-self c =
    let are = fresh 4096 c.in_ok-page.page.items (c.in_ok-page.ensures.items_if_clones_equal (λ y e. e)) in
    record {
      count = c.in-Ok.ensures.count;
      whole = whole_set (page_at c.self.inside.front.items c.self.inside.behind.entries) (page_at c.set_page.new.front.items c.set_page.new.behind.entries) (c.args.address / 4096) _ c.self.invariant.whole c.in-Ok.ensures.ok
          (λ some. fresh_length 4096 c.in_ok-page.page.items (c.args.address % 4096) _ are);
    }
