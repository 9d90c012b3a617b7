use Rattle.std.proofs.Common.{◌≡◌, ◌≢◌, ◌+◌, ◌<◌, ◌≤◌, ◌++◌, ap, sym, subst, ◌∙◌, arith, length-append}
use Rattle.bf_lang.specs.Balance.{IsBalanced}
use Rattle.bf_tape.specs.Code.{write_code}
use Rattle.bf_tape.specs.Piece.{any, written_out}
use Rattle.bf_tape.proofs.Pieces.{balanced_write, does_put}
use Rattle.bf_tape.proofs.Added.{adds_of, code_done, done, length-many}
use Rattle.bf_tape.proofs.frag.Frag.write.Goals as goal

pub join-requires-clause-balanced : goal.join-requires-clause-balanced
join-requires-clause-balanced c =
    let e = c.deref.ensures.value ∙ (c.in_ok-put_write.ensures ∙ (ap (λ xs. xs ++ write_code c.cell.result c.args.cell) c.new-code.ensures.items ∙ ap (λ h. write_code h c.args.cell) c.cell.ensures.cell)) in
    subst (λ xs. IsBalanced xs) (sym e) (balanced_write c.args.self.now.cell c.args.cell)

pub returns-clause-code : goal.returns-clause-code
returns-clause-code c =
    let e = c.deref.ensures.value ∙ (c.in_ok-put_write.ensures ∙ (ap (λ xs. xs ++ write_code c.cell.result c.args.cell) c.new-code.ensures.items ∙ ap (λ h. write_code h c.args.cell) c.cell.ensures.cell)) in
    code_done c.join.result c.args.self.now c.join.new.self c.deref.result.now (write_code c.args.self.now.cell c.args.cell) c.args.cell c.join.ensures.ok e

pub returns-clause-effect : goal.returns-clause-effect
returns-clause-effect c =
    let h = c.args.self.now.cell in
    let lh : h < 256 = subst (λ k. k < 256) c.cell.ensures.cell c.cell.ensures.below in
    let e = c.deref.ensures.value ∙ (c.in_ok-put_write.ensures ∙ (ap (λ xs. xs ++ write_code c.cell.result c.args.cell) c.new-code.ensures.items ∙ ap (λ h. write_code h c.args.cell) c.cell.ensures.cell)) in
    done c.join.result c.args.self.now c.join.new.self c.deref.result.now (write_code h c.args.cell) c.args.cell c.join.ensures.ok e
    (adds_of c.args.self.now (write_code h c.args.cell) c.args.cell any (λ input s. written_out s c.args.cell) 256 256 (simp (length-append, length-many) (omega arith)) (balanced_write h c.args.cell) (λ input s is_input kind. does_put input h c.args.cell s lh c.requires))
