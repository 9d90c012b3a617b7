use Rattle.ws_back.proofs.handing.+put_tree.Given as goal

-- each tree within is of fewer comparisons
abbrev pub decreases-put_tree : goal.decreases-put_tree
decreases-put_tree g l = l.depth
