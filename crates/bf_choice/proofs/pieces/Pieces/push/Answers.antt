use Rattle.std.proofs.Common.{◌≡◌, ◌++◌, ◌∷◌, [], ap, sym, subst, ◌∙◌}
use Rattle.bf_lang.specs.Balance.{IsBalanced}
use Rattle.bf_choice.specs.Choice.{codes, AreBalanced}
use Rattle.bf_choice.proofs.Chosen.{codes_more, balanced_more}
use Rattle.bf_choice.proofs.pieces.Pieces.push.Goals as goal

pub invariant_of-self-2 : goal.invariant_of-self-2
invariant_of-self-2 c =
    let old = c.self.inside.arms.items in
    let arm = c.in_ok-arm.arm in
    let e : codes c.push.new.self.items ≡ codes old ++ arm.items ∷ [] = ap codes c.in_ok-push.ensures.items ∙ codes_more old arm in
    subst AreBalanced (sym e) (balanced_more (codes old) arm.items c.self.invariant (subst IsBalanced (sym c.in_ok-arm.ensures) c.commands-commands.ensures.balanced))
