use Rattle.sq_lang.proofs.Paged.{front_set, behind_set}
use Rattle.sq_lang.proofs.cells.set_page.Goals as goal

pub returns-then-k-lt-SIZE-clause-ok : goal.returns-then-k-lt-SIZE-clause-ok
returns-then-k-lt-SIZE-clause-ok c = front_set c.args.front.now.items c.args.behind.now.entries c.args.k c.args.page c.requires c.if-k-lt-SIZE.true

pub returns-in-Ok-clause-ok : goal.returns-in-Ok-clause-ok
returns-in-Ok-clause-ok c = behind_set c.args.front.now.items c.args.behind.now.entries c.insert.new.self.entries c.args.k c.args.page c.if-k-lt-SIZE.false c.in-Ok.ensures.updates.0
