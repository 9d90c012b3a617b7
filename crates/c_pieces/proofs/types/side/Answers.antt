use Rattle.c_layouts.proofs.KeptLemmas.{layouts_kept}
use Rattle.c_eval.specs.Environment.{operand_type}
use Rattle.c_pieces.proofs.types.side.Goals as goal

pub returns-clause-side : goal.returns-clause-side
returns-clause-side c = λ p tags judged layouts few.
    c.side_of.ensures (operand_type p) tags (c.in_ok-ty.ensures.ty p judged)
    (layouts_kept c.args.types.now c.type_of.new.types c.args.layouts.now tags c.in_ok-ty.ensures.grows c.in_ok-ty.ensures.tags layouts) few
