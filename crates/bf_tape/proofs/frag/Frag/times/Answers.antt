use Rattle.std.proofs.Common.{◌≡◌, ◌≢◌, ◌+◌, ◌<◌, ◌≤◌, ◌++◌, ap, sym, subst, ◌∙◌}
use Rattle.bf_lang.specs.Balance.{IsBalanced}
use Rattle.bf_tape.specs.Code.{times_code}
use Rattle.bf_tape.specs.Piece.{Piece, Times}
use Rattle.bf_tape.proofs.Turning.{balanced_times}
use Rattle.bf_tape.proofs.Added.{adds_times, claim_done}
use Rattle.bf_tape.proofs.frag.Frag.times.Goals as goal

pub join-requires-clause-balanced : goal.join-requires-clause-balanced
join-requires-clause-balanced c =
    let e = c.deref.ensures.value ∙ (c.in_ok-put_times.ensures ∙ ap (λ xs. xs ++ times_code c.cell.result c.args.cell c.commands.result.now) c.new-code.ensures.items) in
    subst (λ xs. IsBalanced xs) (sym e) (balanced_times c.cell.result c.args.cell c.commands.result.now c.commands.ensures.balanced)

pub returns-clause-effect : goal.returns-clause-effect
returns-clause-effect c =
    let lh : c.args.self.now.cell < 256 = subst (λ k. k < 256) c.cell.ensures.cell c.cell.ensures.below in
    let body_is = c.commands.ensures.commands in
    let b = subst (λ xs. IsBalanced xs) body_is c.commands.ensures.balanced in
    let e = c.deref.ensures.value ∙ (c.in_ok-put_times.ensures ∙ (ap (λ xs. xs ++ times_code c.cell.result c.args.cell c.commands.result.now) c.new-code.ensures.items ∙ (λ i. times_code (c.cell.ensures.cell i) c.args.cell (body_is i)))) in
    claim_done (λ (p : Piece). Times c.args.self.now p c.args.body c.args.cell) c.join.result c.args.self.now c.join.new.self c.deref.result.now (times_code c.args.self.now.cell c.args.cell c.args.body.commands) c.args.cell c.join.ensures.ok e
    (adds_times c.args.self.now c.args.body c.args.cell lh c.requires.below b)
