use Rattle.std.proofs.Common.{◌^◌, ◌<◌, ◌%◌, ◌/◌, sym, ap, ◌∙◌, w64, arith}
use Rattle.std.proofs.lemmas.Int.{to_z-of_z}
use Rattle.sq_lang.specs.Step.{cell_at, with_cell}
use Rattle.sq_lang.specs.Pages.{page_at}
use Rattle.sq_lang.proofs.Paged.{stored, is_put, not_put, blank}
use Rattle.sq_lang.proofs.cells.Cells.put.Goals as goal

pub returns-clause-done : goal.returns-clause-done
returns-clause-done c = λ done.
    let same = to_z-of_z w64 c.args.value c.ranges.value in
    let old = page_at c.self.inside.front.items c.self.inside.behind.entries in
    let new = page_at c.put_page.new.front.items c.put_page.new.behind.entries in
    let within : c.args.address < 2 ^ 64 = omega arith in
    stored old new c.args.address c.args.value within (is_put old new c.args.address c.args.value (rw same at c.put_page.ensures.cells) ((rw same at c.put_page.ensures.done) done))
    ∙ ap (λ m. with_cell m c.args.address c.args.value) c.self.view_is

pub returns-clause-not : goal.returns-clause-not
returns-clause-not c = λ full.
    let same = to_z-of_z w64 c.args.value c.ranges.value in
    not_put (page_at c.self.inside.front.items c.self.inside.behind.entries) (page_at c.put_page.new.front.items c.put_page.new.behind.entries) (c.args.address / 4096) (c.args.address % 4096) c.args.value (rw same at c.put_page.ensures.cells) (c.put_page.ensures.not full).0
    ∙ c.self.view_is

pub returns-clause-cause : goal.returns-clause-cause
returns-clause-cause c = λ full.
    let same = to_z-of_z w64 c.args.value c.ranges.value in
    let within : c.args.address < 2 ^ 64 = omega arith in
    let causes = (rw same at c.put_page.ensures.not) full in
    (causes.1, λ q same. ap (λ m. cell_at m q) (sym c.self.view_is) ∙ blank (page_at c.self.inside.front.items c.self.inside.behind.entries) c.args.address within c.self.invariant.whole causes.0 q same)
