use Rattle.bf_choice.proofs.choice.+choose.Given as goal

abbrev pub decreases-choose : goal.decreases-choose
decreases-choose l = l.digits
