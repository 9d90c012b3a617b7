use Rattle.c_weights.proofs.wide.+has_wide.Given as goal

abbrev pub decreases-has_wide : goal.decreases-has_wide
decreases-has_wide l = l.ty
