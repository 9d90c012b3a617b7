use Rattle.std.proofs.Common.{sym, ◌∙◌}
use Rattle.sq_lang.proofs.Paged.{front_cells, behind_page}
use Rattle.sq_lang.proofs.cells.page.Goals as goal

pub returns-then-k-lt-SIZE : goal.returns-then-k-lt-SIZE
returns-then-k-lt-SIZE c = c.as_slice.ensures.value ∙ front_cells c.args.front.now c.args.behind.now.entries c.args.k c.index-front-k.result c.requires c.if-k-lt-SIZE.true c.index-front-k.is

pub returns : goal.returns
returns c = c.page_behind.ensures ∙ sym (behind_page c.args.front.now c.args.behind.now.entries c.args.k c.if-k-lt-SIZE.false)
