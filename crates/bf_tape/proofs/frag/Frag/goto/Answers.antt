use Rattle.std.proofs.Common.{◌≡◌, ◌≢◌, ◌+◌, ◌<◌, ◌≤◌, ◌++◌, ap, sym, subst, ◌∙◌, arith, length-append}
use Rattle.bf_lang.specs.Balance.{IsBalanced}
use Rattle.bf_tape.specs.Code.{goto_code}
use Rattle.bf_tape.specs.Piece.{any}
use Rattle.bf_tape.proofs.Pieces.{balanced_goto, does_goto}
use Rattle.bf_tape.proofs.Added.{adds_of, code_done, done, length-many}
use Rattle.bf_tape.proofs.frag.Frag.goto.Goals as goal

pub join-requires-clause-balanced : goal.join-requires-clause-balanced
join-requires-clause-balanced c =
    let e = c.deref.ensures.value ∙ (c.in_ok-put_goto.ensures ∙ (ap (λ xs. xs ++ goto_code c.cell.result c.args.cell) c.new-code.ensures.items ∙ ap (λ h. goto_code h c.args.cell) c.cell.ensures.cell)) in
    subst (λ xs. IsBalanced xs) (sym e) (balanced_goto c.args.self.now.cell c.args.cell)

pub returns-clause-code : goal.returns-clause-code
returns-clause-code c =
    let e = c.deref.ensures.value ∙ (c.in_ok-put_goto.ensures ∙ (ap (λ xs. xs ++ goto_code c.cell.result c.args.cell) c.new-code.ensures.items ∙ ap (λ h. goto_code h c.args.cell) c.cell.ensures.cell)) in
    code_done c.join.result c.args.self.now c.join.new.self c.deref.result.now (goto_code c.args.self.now.cell c.args.cell) c.args.cell c.join.ensures.ok e

pub returns-clause-effect : goal.returns-clause-effect
returns-clause-effect c =
    let h = c.args.self.now.cell in
    let lh : h < 256 = subst (λ k. k < 256) c.cell.ensures.cell c.cell.ensures.below in
    let e = c.deref.ensures.value ∙ (c.in_ok-put_goto.ensures ∙ (ap (λ xs. xs ++ goto_code c.cell.result c.args.cell) c.new-code.ensures.items ∙ ap (λ h. goto_code h c.args.cell) c.cell.ensures.cell)) in
    done c.join.result c.args.self.now c.join.new.self c.deref.result.now (goto_code h c.args.cell) c.args.cell c.join.ensures.ok e
    (adds_of c.args.self.now (goto_code h c.args.cell) c.args.cell any (λ input s. s) 255 255 (simp (length-append, length-many) (omega arith)) (balanced_goto h c.args.cell) (λ input s is_input kind. does_goto input h c.args.cell s 255 (omega arith)))
