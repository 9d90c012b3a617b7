use Rattle.std.proofs.Common.{◌+◌}
use Rattle.mach_core.proofs.Files.{taken_from}
use Rattle.mach_core.proofs.file.read_file.Goals as goal

pub returns-in-Ok-clause-gave : goal.returns-in-Ok-clause-gave
returns-in-Ok-clause-gave g c = λ large.
    taken_from (g.F.Shelf.texts c.args.shelf.now) c.args.name.now (g.F.Shelf.left c.find.new.self) (g.F.Shelf.left c.read_rest.new.shelf) (c.args.limit + 1) c.in-Ok.ensures.front (c.read_rest.ensures.too_large large)
