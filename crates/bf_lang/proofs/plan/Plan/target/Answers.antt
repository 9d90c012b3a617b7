use Rattle.std.proofs.Common.{◌≤◌, length, get_or, refl, arith}
use Rattle.bf_lang.specs.declared.fold.Fold.TheVariants.{Right, Clear}
use Rattle.bf_lang.proofs.Folded.{fold_is, target_clear, target_other}
use Rattle.bf_lang.proofs.plan.Plan.target.Goals as goal

pub returns-in-Clear : goal.returns-in-Clear
returns-in-Clear c =
    let here : c.args.place ≤ length c.args.self.now = omega (arith, c.requires) in
    target_clear c.args.self.now c.args.place (fold_is c.args.self.now c.folds.result.now c.args.place (Right 0) Clear c.folds.ensures.folds here c.in-Clear.is)

pub returns-in_default : goal.returns-in_default
returns-in_default c =
    let here : c.args.place ≤ length c.args.self.now = omega (arith, c.requires) in
    let fold = get_or c.folds.result.now c.args.place (Right 0) in
    target_other c.args.self.now c.args.place fold (fold_is c.args.self.now c.folds.result.now c.args.place (Right 0) fold c.folds.ensures.folds here refl) c.in_default.not-Clear c.in_default.not-Open c.in_default.not-Close
