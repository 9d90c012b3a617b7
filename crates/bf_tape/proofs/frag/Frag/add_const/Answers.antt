use Rattle.std.proofs.Common.{◌≡◌, ◌≢◌, ◌+◌, ◌<◌, ◌≤◌, ◌++◌, ◌%◌, ◌^◌, ap, sym, subst, ◌∙◌, arith, length-append}
use Rattle.bf_lang.specs.Balance.{IsBalanced}
use Rattle.bf_tape.specs.Code.{add_code}
use Rattle.bf_tape.specs.Tape.{get, put}
use Rattle.bf_tape.specs.Piece.{any}
use Rattle.bf_tape.proofs.Pieces.{balanced_add, does_add}
use Rattle.bf_tape.proofs.Added.{adds_of, code_done, done, length-many, length_more}
use Rattle.bf_tape.proofs.frag.Frag.add_const.Goals as goal

pub join-requires-clause-balanced : goal.join-requires-clause-balanced
join-requires-clause-balanced c =
    let e = c.deref.ensures.value ∙ (c.in_ok-put_add.ensures ∙ (ap (λ xs. xs ++ add_code c.cell.result c.args.cell c.args.v) c.new-code.ensures.items ∙ ap (λ h. add_code h c.args.cell c.args.v) c.cell.ensures.cell)) in
    subst (λ xs. IsBalanced xs) (sym e) (balanced_add c.args.self.now.cell c.args.cell c.args.v)

pub returns-clause-code : goal.returns-clause-code
returns-clause-code c =
    let e = c.deref.ensures.value ∙ (c.in_ok-put_add.ensures ∙ (ap (λ xs. xs ++ add_code c.cell.result c.args.cell c.args.v) c.new-code.ensures.items ∙ ap (λ h. add_code h c.args.cell c.args.v) c.cell.ensures.cell)) in
    code_done c.join.result c.args.self.now c.join.new.self c.deref.result.now (add_code c.args.self.now.cell c.args.cell c.args.v) c.args.cell c.join.ensures.ok e

pub returns-clause-effect : goal.returns-clause-effect
returns-clause-effect c =
    let h = c.args.self.now.cell in
    let lh : h < 256 = subst (λ k. k < 256) c.cell.ensures.cell c.cell.ensures.below in
    let e = c.deref.ensures.value ∙ (c.in_ok-put_add.ensures ∙ (ap (λ xs. xs ++ add_code c.cell.result c.args.cell c.args.v) c.new-code.ensures.items ∙ ap (λ h. add_code h c.args.cell c.args.v) c.cell.ensures.cell)) in
    done c.join.result c.args.self.now c.join.new.self c.deref.result.now (add_code h c.args.cell c.args.v) c.args.cell c.join.ensures.ok e
    (adds_of c.args.self.now (add_code h c.args.cell c.args.v) c.args.cell any (λ input s. put s c.args.cell ((get s c.args.cell + c.args.v) % 2 ^ 8)) 512 512 (simp (length-append, length-many) (omega (arith, length_more c.args.v (omega arith)))) (balanced_add h c.args.cell c.args.v) (λ input s is_input kind. does_add input h c.args.cell c.args.v s lh c.requires (omega arith)))
