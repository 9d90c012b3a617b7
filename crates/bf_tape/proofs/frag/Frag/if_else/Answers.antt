use Rattle.std.proofs.Common.{◌≡◌, ◌≢◌, ◌+◌, ◌<◌, ◌≤◌, ◌++◌, ap, sym, subst, ◌∙◌}
use Rattle.bf_lang.specs.Balance.{IsBalanced}
use Rattle.bf_tape.specs.Code.{if_code}
use Rattle.bf_tape.specs.Piece.{Piece, Chooses}
use Rattle.bf_tape.proofs.Turning.{balanced_if}
use Rattle.bf_tape.proofs.Added.{adds_if, claim_done}
use Rattle.bf_tape.proofs.frag.Frag.if_else.Goals as goal

pub join-requires-clause-balanced : goal.join-requires-clause-balanced
join-requires-clause-balanced c =
    let e = c.deref.ensures.value ∙ (c.in_ok-put_if.ensures ∙ ap (λ xs. xs ++ if_code c.cell.result c.args.cell c.args.spare c.commands.result.now c.commands-2.result.now) c.new-code.ensures.items) in
    subst (λ xs. IsBalanced xs) (sym e) (balanced_if c.cell.result c.args.cell c.args.spare c.commands.result.now c.commands-2.result.now c.commands.ensures.balanced c.commands-2.ensures.balanced)

pub returns-clause-effect : goal.returns-clause-effect
returns-clause-effect c =
    let lh : c.args.self.now.cell < 256 = subst (λ k. k < 256) c.cell.ensures.cell c.cell.ensures.below in
    let yes_is = c.commands.ensures.commands in
    let other_is = c.commands-2.ensures.commands in
    let b = subst (λ xs. IsBalanced xs) yes_is c.commands.ensures.balanced in
    let b' = subst (λ xs. IsBalanced xs) other_is c.commands-2.ensures.balanced in
    let e = c.deref.ensures.value ∙ (c.in_ok-put_if.ensures ∙ (ap (λ xs. xs ++ if_code c.cell.result c.args.cell c.args.spare c.commands.result.now c.commands-2.result.now) c.new-code.ensures.items
    ∙ (λ i. if_code (c.cell.ensures.cell i) c.args.cell c.args.spare (yes_is i) (other_is i)))) in
    claim_done (λ (p : Piece). Chooses c.args.self.now p c.args.yes c.args.other c.args.cell c.args.spare) c.join.result c.args.self.now c.join.new.self c.deref.result.now
    (if_code c.args.self.now.cell c.args.cell c.args.spare c.args.yes.commands c.args.other.commands) c.args.spare c.join.ensures.ok e
    (adds_if c.args.self.now c.args.yes c.args.other c.args.cell c.args.spare lh c.requires.cell c.requires.spare c.requires.differ b b')
