use Rattle.c_opening.proofs.opening.open.Goals as goal

pub returns-clause-holds : goal.returns-clause-holds
returns-clause-holds c = c.in_ok-named.ensures.holds

pub returns-clause-numbered : goal.returns-clause-numbered
returns-clause-numbered c = λ name h. c.in_ok-named.ensures.numbered name h
