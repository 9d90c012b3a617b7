use Rattle.std.proofs.Common.{List, ap}
use Rattle.c_syntax.specs.Plain.{CExpr}
use Rattle.c_syntax.specs.View.{expr_of}
use Rattle.c_helper_steps.specs.Seen.{seen}
use Rattle.c_helper_steps.proofs.Rows.{one_put}
use Rattle.c_helper_steps.proofs.parts.Parts.put.Goals as goal

pub returns : goal.returns
returns c = ap (λ (l : List CExpr). record (seen c.args.self.now) { exprs = l }) (one_put expr_of c.args.self.now.exprs.items c.push.new.self.items c.args.e c.in_ok-push.ensures.items)
