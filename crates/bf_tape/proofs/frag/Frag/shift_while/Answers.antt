use Rattle.std.proofs.Common.{◌≡◌, ◌≢◌, ◌+◌, ◌<◌, ◌≤◌, ◌++◌, ap, sym, subst, ◌∙◌}
use Rattle.bf_lang.specs.Balance.{IsBalanced}
use Rattle.bf_lang.proofs.Partners.{balanced_append}
use Rattle.bf_tape.specs.Code.{while_code, slide_code, walk_code}
use Rattle.bf_tape.specs.Piece.{Piece, Strolls}
use Rattle.bf_tape.proofs.Turning.{balanced_walk}
use Rattle.bf_tape.proofs.Added.{adds_walk, claim_done}
use Rattle.bf_tape.proofs.frag.Frag.shift_while.Goals as goal

pub join-requires-clause-balanced : goal.join-requires-clause-balanced
join-requires-clause-balanced c =
    let slide = slide_code c.args.by c.args.right in
    let turn = c.deref.ensures.value ∙ (c.in_ok-put_slide.ensures ∙ ap (λ xs. xs ++ slide) (c.in_ok-extend_from_slice.ensures.items ∙ ap (λ xs. xs ++ c.commands.result.now) c.new-turn.ensures.items)) in
    let e = c.deref-2.ensures.value ∙ (c.in_ok-put_while.ensures ∙ (ap (λ xs. xs ++ while_code c.cell.result c.args.cell c.deref.result.now) c.new-code.ensures.items ∙ ap (while_code c.cell.result c.args.cell) turn)) in
    subst (λ xs. IsBalanced xs) (sym e) (balanced_walk c.cell.result c.args.cell c.args.by c.args.right c.commands.result.now c.commands.ensures.balanced)

pub returns-clause-effect : goal.returns-clause-effect
returns-clause-effect c =
    let lh : c.args.self.now.cell < 256 = subst (λ k. k < 256) c.cell.ensures.cell c.cell.ensures.below in
    let slide = slide_code c.args.by c.args.right in
    let body_is = c.commands.ensures.commands in
    let b = subst (λ xs. IsBalanced xs) body_is c.commands.ensures.balanced in
    let turn = c.deref.ensures.value ∙ (c.in_ok-put_slide.ensures ∙ (ap (λ xs. xs ++ slide) (c.in_ok-extend_from_slice.ensures.items ∙ ap (λ xs. xs ++ c.commands.result.now) c.new-turn.ensures.items) ∙ ap (λ xs. xs ++ slide) body_is)) in
    let e = c.deref-2.ensures.value ∙ (c.in_ok-put_while.ensures ∙ (ap (λ xs. xs ++ while_code c.cell.result c.args.cell c.deref.result.now) c.new-code.ensures.items ∙ (λ i. while_code (c.cell.ensures.cell i) c.args.cell (turn i)))) in
    claim_done (λ (p : Piece). Strolls c.args.self.now p c.args.body c.args.cell c.args.by c.args.right) c.join.result c.args.self.now c.join.new.self c.deref-2.result.now
    (walk_code c.args.self.now.cell c.args.cell c.args.by c.args.right c.args.body.commands) c.args.cell c.join.ensures.ok e
    (adds_walk c.args.self.now c.args.body c.args.cell c.args.by c.args.right lh c.requires.below c.requires.few b)
