use Rattle.std.proofs.Common.{List, ap}
use Rattle.c_syntax.specs.Plain.{CStmt}
use Rattle.c_syntax.specs.View.{stmt_of}
use Rattle.c_helper_steps.specs.Seen.{seen}
use Rattle.c_helper_steps.proofs.Rows.{one_put}
use Rattle.c_helper_steps.proofs.parts.Parts.put_statement.Goals as goal

pub returns : goal.returns
returns c = ap (λ (l : List CStmt). record (seen c.args.self.now) { row = l }) (one_put stmt_of c.args.self.now.row.items c.push.new.self.items c.args.s c.in_ok-push.ensures.items)
