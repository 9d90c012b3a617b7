use Rattle.std.proofs.Common.{◌+◌, ◌-◌, ◌<◌, ◌≤◌, length, get_or, refl, arith}
use Rattle.bf_lang.specs.declared.fold.Fold.TheVariants.{Right}
use Rattle.bf_lang.proofs.Folded.{fold_is}
use Rattle.bf_lang.proofs.Joined.{folds_set}
use Rattle.bf_lang.proofs.joining.join.Goals as goal

pub loop-k-preserved : goal.loop-k-preserved
loop-k-preserved c =
    let code = c.args.commands.now in
    let folds = c.loop-k.folds in
    let k = c.loop-k.k - 1 in
    let here : k ≤ length code = omega arith in
    let next : k + 1 ≤ length code = omega arith in
    let low : k < length folds = omega (arith, c.loop-k.invariant.count) in
    let first = fold_is code folds k (Right 0) (get_or folds k (Right 0)) c.loop-k.invariant here refl in
    let second = fold_is code folds (k + 1) (Right 0) (get_or folds (k + 1) (Right 0)) c.loop-k.invariant next refl in
    folds_set code folds k c.cleared.result low c.loop-k.invariant (c.cleared.ensures (c.joined.ensures code k first second))
