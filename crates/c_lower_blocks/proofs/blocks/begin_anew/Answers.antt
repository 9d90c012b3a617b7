use Rattle.std.proofs.Common.{refl, ◌∙◌}
use Rattle.c_lower_blocks.proofs.blocks.begin_anew.Goals as goal

pub returns : goal.returns
returns c = record {
  names = c.enter.ensures.block;
  declared = record { outer = c.enter.ensures.outer ∙ c.in_ok-leave.ensures.names; layouts = refl; defined = refl };
  slots = refl;
  bases = refl;
  entries = refl;
}
