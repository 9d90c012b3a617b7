use Rattle.std.proofs.Common.{◌≡◌, ◌++◌, Option, Some, None, ap, ◌∙◌}
use Rattle.c_syntax.specs.Words.{meaning}
use Rattle.c_scopes.proofs.BlockLemmas.{is_meant}
use Rattle.c_scopes.proofs.names.Names.get.Goals as goal

pub returns-in-Some : goal.returns-in-Some
returns-in-Some c =
    is_meant c.self.inside.declared.items c.self.inside.latest.entries c.self.inside.start c.args.name.now (Some c.in-Some.place) c.in-Some.ensures c.self.invariant.1
    ∙ ap (λ b. meaning (b.block ++ b.outer) c.args.name.now) c.self.view_is

pub returns-in-None : goal.returns-in-None
returns-in-None c =
    is_meant c.self.inside.declared.items c.self.inside.latest.entries c.self.inside.start c.args.name.now None c.in-None.ensures c.self.invariant.1
    ∙ ap (λ b. meaning (b.block ++ b.outer) c.args.name.now) c.self.view_is
