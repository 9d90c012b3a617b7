use Rattle.std.proofs.Common.{◌≡◌, List, length, sym, subst, arith}
use Rattle.bf_lang.specs.declared.fold.Fold.{Fold}
use Rattle.bf_lang.specs.Fold.{AreFolds}
use Rattle.bf_lang.specs.Pairing.{ArePaired}
use Rattle.bf_lang.proofs.PairedUp.{folds_done}
use Rattle.bf_lang.proofs.pairing.partners.Goals as goal

pub returns : goal.returns
returns c =
    let code = c.args.commands.now in
    let end : c.loop-k.k ≡ length code = omega (arith, c.loop-k.invariant.within) in
    let all = subst (λ n. ArePaired code n c.loop-k.folds.items c.loop-k.waiting.items) end c.loop-k.invariant in
    subst (λ (folds : List Fold). AreFolds code folds) (sym c.in_ok-push.ensures.items) (folds_done code c.loop-k.folds.items c.loop-k.waiting.items c.requires.balanced all)
