use Rattle.std.proofs.Common.{sym, ◌∙◌}
use Rattle.c_lower.proofs.PlacedLemmas.{stays, enters}
use Rattle.c_lower.proofs.placed.add_literals.Goals as goal

pub returns-in-Some : goal.returns-in-Some
returns-in-Some c = stays c.args.known.now.entries c.args.name.now c.args.literals c.in-Some._before (sym c.known_of.ensures ∙ c.in-Some.is)

pub returns-in_ok-insert-in-None : goal.returns-in_ok-insert-in-None
returns-in_ok-insert-in-None c = enters c.args.known.now.entries c.insert.new.self.entries c.args.name c.args.literals (sym c.known_of.ensures ∙ c.in-None.is) c.in_ok-insert-in-None.ensures.entries
