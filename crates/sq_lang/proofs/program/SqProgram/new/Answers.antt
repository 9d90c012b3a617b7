use Rattle.std.proofs.Common.{sym, ap, ◌∙◌}
use Rattle.sq_lang.specs.Step.{cells_from}
use Rattle.sq_lang.proofs.Listing.{first_cells-none}
use Rattle.sq_lang.proofs.program.SqProgram.new.Goals as goal

pub invariant_of-result : goal.invariant_of-result
invariant_of-result c = c.in_ok-new.ensures ∙ ap (cells_from 0) (sym (first_cells-none _))

pub returns : goal.returns
returns c = first_cells-none _
