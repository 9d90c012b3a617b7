use Rattle.c_layouts.proofs.size.+words.Given as goal

abbrev pub decreases-words : goal.decreases-words
decreases-words l = l.ty
