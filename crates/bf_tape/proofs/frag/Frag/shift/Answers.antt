use Rattle.std.proofs.Common.{◌≡◌, ◌≢◌, ◌+◌, ◌<◌, ◌≤◌, ◌++◌, ap, sym, subst, ◌∙◌, arith, length-append}
use Rattle.bf_lang.specs.Balance.{IsBalanced}
use Rattle.bf_tape.specs.Code.{shift_code}
use Rattle.bf_tape.specs.Piece.{IsRoom, shifted}
use Rattle.bf_tape.proofs.Turning.{balanced_shift, does_shift}
use Rattle.bf_tape.proofs.Added.{adds_of, code_done, done, length-many, length_slide}
use Rattle.bf_tape.proofs.frag.Frag.shift.Goals as goal

pub join-requires-clause-balanced : goal.join-requires-clause-balanced
join-requires-clause-balanced c =
    let e = c.deref.ensures.value ∙ (c.in_ok-put_shift.ensures ∙ (ap (λ xs. xs ++ shift_code c.cell.result c.args.by c.args.right) c.new-code.ensures.items ∙ ap (λ h. shift_code h c.args.by c.args.right) c.cell.ensures.cell)) in
    subst (λ xs. IsBalanced xs) (sym e) (balanced_shift c.args.self.now.cell c.args.by c.args.right)

pub returns-clause-code : goal.returns-clause-code
returns-clause-code c =
    let e = c.deref.ensures.value ∙ (c.in_ok-put_shift.ensures ∙ (ap (λ xs. xs ++ shift_code c.cell.result c.args.by c.args.right) c.new-code.ensures.items ∙ ap (λ h. shift_code h c.args.by c.args.right) c.cell.ensures.cell)) in
    code_done c.join.result c.args.self.now c.join.new.self c.deref.result.now (shift_code c.args.self.now.cell c.args.by c.args.right) 0 c.join.ensures.ok e

pub returns-clause-effect : goal.returns-clause-effect
returns-clause-effect c =
    let h = c.args.self.now.cell in
    let lh : h < 256 = subst (λ k. k < 256) c.cell.ensures.cell c.cell.ensures.below in
    let e = c.deref.ensures.value ∙ (c.in_ok-put_shift.ensures ∙ (ap (λ xs. xs ++ shift_code c.cell.result c.args.by c.args.right) c.new-code.ensures.items ∙ ap (λ h. shift_code h c.args.by c.args.right) c.cell.ensures.cell)) in
    done c.join.result c.args.self.now c.join.new.self c.deref.result.now (shift_code h c.args.by c.args.right) 0 c.join.ensures.ok e
    (adds_of c.args.self.now (shift_code h c.args.by c.args.right) 0 (IsRoom c.args.by c.args.right) (λ input s. shifted s c.args.by c.args.right) 512 512 (simp (length-append, length-many, length_slide) (omega arith)) (balanced_shift h c.args.by c.args.right) (λ input s is_input kind. does_shift input h c.args.by c.args.right s lh c.requires.few kind))
