use Rattle.std.proofs.Common.{◌≡◌, ◌≤◌, length, Some, None, ap, ◌∙◌, arith}
use Rattle.std.specs.Prelude.{is_some}
use Rattle.c_syntax.specs.Words.{meaning}
use Rattle.c_scopes.proofs.BlockLemmas.{is_here}
use Rattle.c_scopes.proofs.names.Names.is_declared_here.Goals as goal

pub returns-in-Some : goal.returns-in-Some
returns-in-Some c =
    let within : c.self.inside.start ≤ length c.self.inside.declared.items = omega arith in
    is_here c.self.inside.declared.items c.self.inside.latest.entries c.self.inside.start c.args.name.now (Some c.in-Some.place) c.in-Some.ensures c.self.invariant.1 within
    ∙ ap (λ b. is_some (meaning b.block c.args.name.now)) c.self.view_is

pub returns-in-None : goal.returns-in-None
returns-in-None c =
    let within : c.self.inside.start ≤ length c.self.inside.declared.items = omega arith in
    is_here c.self.inside.declared.items c.self.inside.latest.entries c.self.inside.start c.args.name.now None c.in-None.ensures c.self.invariant.1 within
    ∙ ap (λ b. is_some (meaning b.block c.args.name.now)) c.self.view_is
