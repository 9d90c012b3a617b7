use Rattle.std.proofs.Common.{cond, ap, ◌∙◌}
use Rattle.eir_opt.specs.Folding.{told}
use Rattle.eir_opt.proofs.WordsMade.{made-Some}
use Rattle.eir_opt.proofs.fold.outcome.Goals as goal

pub returns : goal.returns
returns c = made-Some (told c.args.test) c.args.x c.args.y c.in_ok-x.field-0 c.in_ok-y.field-0 c.bit.result c.in_ok-x.was c.in_ok-y.was (c.bit.ensures ∙ ap (λ b. cond b 1 0) c.compare.ensures)
