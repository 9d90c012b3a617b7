use Rattle.std.proofs.Common.{◌≡◌, ◌+◌, List, [], ◌∷◌, ◌++◌, length, sym, subst, arith}
use Rattle.bf_lang.specs.declared.fold.Fold.{Fold}
use Rattle.bf_lang.specs.Pairing.{ArePaired}
use Rattle.bf_lang.proofs.PairedUp.{paired_close, none_open}
use Rattle.bf_lang.proofs.pairing.close.Goals as goal

pub unreachable-requires : goal.unreachable-requires
unreachable-requires c =
    let none : length c.args.waiting.now.items ≡ 0 = grind (arith, c.in_default.ensures.cases.0, c.args.waiting.now.ok) in
    none_open c.args.commands.now c.args.place c.args.folds.now.items c.args.waiting.now.items none c.requires.balanced c.requires.here c.requires.before

pub returns : goal.returns
returns c =
    let code = c.args.commands.now in
    let k = c.args.place in
    let i = c.in-Some.start in
    let before : ArePaired code k c.args.folds.now.items (c.pop.new.self.items ++ i ∷ []) = subst (λ ws. ArePaired code k c.args.folds.now.items ws) c.in-Some.ensures.items c.requires.before in
    subst (λ (folds : List Fold). ArePaired code (k + 1) folds c.pop.new.self.items) (sym c.in_ok-push.ensures.items)
    (paired_close code k i c.args.folds.now.items c.pop.new.self.items c.requires.here before)
