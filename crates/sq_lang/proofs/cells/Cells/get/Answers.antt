use Rattle.std.proofs.Common.{◌^◌, ◌<◌, ◌%◌, ◌/◌, get_or, ap, ◌∙◌, pos, w64, FitsSigned, rules, arith}
use Rattle.std.proofs.lemmas.Int.{to_z-of_z}
use Rattle.sq_lang.specs.Pages.{page_at}
use Rattle.sq_lang.proofs.Paged.{found_at, found_none}
use Rattle.sq_lang.proofs.cells.Cells.get.Goals as goal

pub returns-then-index-page : goal.returns-then-index-page
returns-then-index-page c =
    let behind = c.self.inside.behind.entries in
    let within : c.args.address < 2 ^ 64 = omega arith in
    let fits : FitsSigned w64 (get_or c.page-page.result.now (c.args.address % 4096) (pos 0)) = search rules in
    to_z-of_z w64 _ fits
    ∙ found_at (page_at c.self.inside.front.items behind) c.args.self.now c.args.address c.page-page.result.now c.self.view_is within (c.page-page.ensures ∙ ap (λ front. page_at front behind (c.args.address / 4096)) c.deref.ensures.value)

pub returns-else-index-page : goal.returns-else-index-page
returns-else-index-page c =
    let behind = c.self.inside.behind.entries in
    let within : c.args.address < 2 ^ 64 = omega arith in
    found_none (page_at c.self.inside.front.items behind) c.args.self.now c.args.address c.page-page.result.now c.self.view_is within (c.page-page.ensures ∙ ap (λ front. page_at front behind (c.args.address / 4096)) c.deref.ensures.value) c.if-index-page.false
