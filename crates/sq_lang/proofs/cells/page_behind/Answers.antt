use Rattle.std.proofs.Common.{ap, ◌∙◌}
use Rattle.sq_lang.specs.Pages.{cells_in}
use Rattle.sq_lang.proofs.cells.page_behind.Goals as goal

pub returns-in-Some : goal.returns-in-Some
returns-in-Some c = c.as_slice.ensures.value ∙ ap cells_in c.in-Some.ensures.value

pub returns-in-None : goal.returns-in-None
returns-in-None c = ap cells_in c.in-None.ensures.value
