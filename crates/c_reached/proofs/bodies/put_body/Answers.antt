use Rattle.std.proofs.Common.{sym, ◌∙◌}
use Rattle.c_syntax.specs.View.{stmt_of}
use Rattle.c_reached.proofs.BodyLemmas.{kept_put}
use Rattle.c_reached.proofs.bodies.put_body.Goals as goal

pub returns-then-is_defined : goal.returns-then-is_defined
returns-then-is_defined c = kept_put c.args.bodies.now.entries c.args.name.now (stmt_of c.args.body.now) (sym c.is_defined.ensures ∙ c.if-is_defined.true)

pub returns-else-is_defined : goal.returns-else-is_defined
returns-else-is_defined c = c.insert_body.ensures (sym c.is_defined.ensures ∙ c.if-is_defined.false)
