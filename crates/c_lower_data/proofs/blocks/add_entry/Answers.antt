use Rattle.std.proofs.Common.{sym, ◌∙◌}
use Rattle.c_lower_data.proofs.EntryLemmas.{stays, enters}
use Rattle.c_lower_data.proofs.blocks.add_entry.Goals as goal

pub returns-in-Some : goal.returns-in-Some
returns-in-Some c = stays c.args.entries.now.entries c.args.name.now c.args.block c.in-Some._before (sym c.block_of.ensures ∙ c.in-Some.is)

pub returns-in_ok-insert-in-None : goal.returns-in_ok-insert-in-None
returns-in_ok-insert-in-None c = enters c.args.entries.now.entries c.insert.new.self.entries c.args.name c.args.block (sym c.block_of.ensures ∙ c.in-None.is) c.in_ok-insert-in-None.ensures.entries
