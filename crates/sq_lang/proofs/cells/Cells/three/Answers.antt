use Rattle.std.proofs.Common.{◌^◌, ◌<◌, ◌%◌, ◌/◌, ◌+◌, get_or, ap, ◌∙◌, pos, w64, FitsSigned, rules, arith}
use Rattle.std.proofs.lemmas.Int.{to_z-of_z}
use Rattle.sq_lang.specs.Pages.{page_at}
use Rattle.sq_lang.proofs.Paged.{found_at, found_near}
use Rattle.sq_lang.proofs.cells.Cells.three.Goals as goal

pub returns-then-index-page-clause-first : goal.returns-then-index-page-clause-first
returns-then-index-page-clause-first c =
    let behind = c.self.inside.behind.entries in
    let within : c.args.address < 2 ^ 64 = omega arith in
    let fits : FitsSigned w64 (get_or c.page-page.result.now (c.args.address % 4096) (pos 0)) = search rules in
    to_z-of_z w64 _ fits
    ∙ found_at (page_at c.self.inside.front.items behind) c.args.self.now c.args.address c.page-page.result.now c.self.view_is within (c.page-page.ensures ∙ ap (λ front. page_at front behind (c.args.address / 4096)) c.deref.ensures.value)

pub returns-then-index-page-clause-second : goal.returns-then-index-page-clause-second
returns-then-index-page-clause-second c =
    let behind = c.self.inside.behind.entries in
    let within : c.args.address < 2 ^ 64 = omega arith in
    let fits : FitsSigned w64 (get_or c.page-page.result.now (c.args.address % 4096 + 1) (pos 0)) = search rules in
    to_z-of_z w64 _ fits
    ∙ found_near (page_at c.self.inside.front.items behind) c.args.self.now c.args.address 1 c.page-page.result.now c.self.view_is c.self.invariant.whole within (c.page-page.ensures ∙ ap (λ front. page_at front behind (c.args.address / 4096)) c.deref.ensures.value) (omega arith)

pub returns-then-index-page-clause-third : goal.returns-then-index-page-clause-third
returns-then-index-page-clause-third c =
    let behind = c.self.inside.behind.entries in
    let within : c.args.address < 2 ^ 64 = omega arith in
    let fits : FitsSigned w64 (get_or c.page-page.result.now (c.args.address % 4096 + 2) (pos 0)) = search rules in
    to_z-of_z w64 _ fits
    ∙ found_near (page_at c.self.inside.front.items behind) c.args.self.now c.args.address 2 c.page-page.result.now c.self.view_is c.self.invariant.whole within (c.page-page.ensures ∙ ap (λ front. page_at front behind (c.args.address / 4096)) c.deref.ensures.value) (omega arith)
