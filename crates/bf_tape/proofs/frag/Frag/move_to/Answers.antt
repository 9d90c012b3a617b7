use Rattle.std.proofs.Common.{◌≡◌, ◌≢◌, ◌+◌, ◌<◌, ◌≤◌, ◌++◌, ◌^◌, ap, sym, subst, ◌∙◌, arith, length-append}
use Rattle.bf_lang.specs.Balance.{IsBalanced}
use Rattle.bf_tape.specs.Code.{move_code}
use Rattle.bf_tape.specs.Piece.{any, moved}
use Rattle.bf_tape.proofs.Pieces.{balanced_move, does_move}
use Rattle.bf_tape.proofs.Added.{adds_of, code_done, done, length-many}
use Rattle.bf_tape.proofs.frag.Frag.move_to.Goals as goal

pub join-requires-clause-balanced : goal.join-requires-clause-balanced
join-requires-clause-balanced c =
    let e = c.deref.ensures.value ∙ (c.in_ok-put_carry.ensures ∙ (ap (λ xs. xs ++ move_code c.cell.result c.args.from c.args.to) c.new-code.ensures.items ∙ ap (λ h. move_code h c.args.from c.args.to) c.cell.ensures.cell)) in
    subst (λ xs. IsBalanced xs) (sym e) (balanced_move c.args.self.now.cell c.args.from c.args.to)

pub returns-clause-code : goal.returns-clause-code
returns-clause-code c =
    let e = c.deref.ensures.value ∙ (c.in_ok-put_carry.ensures ∙ (ap (λ xs. xs ++ move_code c.cell.result c.args.from c.args.to) c.new-code.ensures.items ∙ ap (λ h. move_code h c.args.from c.args.to) c.cell.ensures.cell)) in
    code_done c.join.result c.args.self.now c.join.new.self c.deref.result.now (move_code c.args.self.now.cell c.args.from c.args.to) c.args.from c.join.ensures.ok e

pub returns-clause-effect : goal.returns-clause-effect
returns-clause-effect c =
    let h = c.args.self.now.cell in
    let lh : h < 256 = subst (λ k. k < 256) c.cell.ensures.cell c.cell.ensures.below in
    let e = c.deref.ensures.value ∙ (c.in_ok-put_carry.ensures ∙ (ap (λ xs. xs ++ move_code c.cell.result c.args.from c.args.to) c.new-code.ensures.items ∙ ap (λ h. move_code h c.args.from c.args.to) c.cell.ensures.cell)) in
    done c.join.result c.args.self.now c.join.new.self c.deref.result.now (move_code h c.args.from c.args.to) c.args.from c.join.ensures.ok e
    (adds_of c.args.self.now (move_code h c.args.from c.args.to) c.args.from any (λ input s. moved s c.args.from c.args.to) (2 ^ 18) 1024 (simp (length-append, length-many) (omega arith)) (balanced_move h c.args.from c.args.to) (λ input s is_input kind. does_move input h c.args.from c.args.to s lh c.requires.from c.requires.to c.requires.differ))
