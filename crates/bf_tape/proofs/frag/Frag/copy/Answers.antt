use Rattle.std.proofs.Common.{◌≡◌, ◌≢◌, ◌+◌, ◌<◌, ◌≤◌, ◌++◌, ◌^◌, ap, sym, subst, ◌∙◌, arith, length-append}
use Rattle.bf_lang.specs.Balance.{IsBalanced}
use Rattle.bf_tape.specs.Code.{copy_code}
use Rattle.bf_tape.specs.Piece.{any, copied}
use Rattle.bf_tape.proofs.Pieces.{balanced_copy, does_copy}
use Rattle.bf_tape.proofs.Added.{adds_of, code_done, done, length-many}
use Rattle.bf_tape.proofs.frag.Frag.copy.Goals as goal

pub join-requires-clause-balanced : goal.join-requires-clause-balanced
join-requires-clause-balanced c =
    let e = c.deref.ensures.value ∙ (c.in_ok-put_copy.ensures ∙ (ap (λ xs. xs ++ copy_code c.cell.result c.args.from c.args.to c.args.spare) c.new-code.ensures.items ∙ ap (λ h. copy_code h c.args.from c.args.to c.args.spare) c.cell.ensures.cell)) in
    subst (λ xs. IsBalanced xs) (sym e) (balanced_copy c.args.self.now.cell c.args.from c.args.to c.args.spare)

pub returns-clause-code : goal.returns-clause-code
returns-clause-code c =
    let e = c.deref.ensures.value ∙ (c.in_ok-put_copy.ensures ∙ (ap (λ xs. xs ++ copy_code c.cell.result c.args.from c.args.to c.args.spare) c.new-code.ensures.items ∙ ap (λ h. copy_code h c.args.from c.args.to c.args.spare) c.cell.ensures.cell)) in
    code_done c.join.result c.args.self.now c.join.new.self c.deref.result.now (copy_code c.args.self.now.cell c.args.from c.args.to c.args.spare) c.args.spare c.join.ensures.ok e

pub returns-clause-effect : goal.returns-clause-effect
returns-clause-effect c =
    let h = c.args.self.now.cell in
    let lh : h < 256 = subst (λ k. k < 256) c.cell.ensures.cell c.cell.ensures.below in
    let e = c.deref.ensures.value ∙ (c.in_ok-put_copy.ensures ∙ (ap (λ xs. xs ++ copy_code c.cell.result c.args.from c.args.to c.args.spare) c.new-code.ensures.items ∙ ap (λ h. copy_code h c.args.from c.args.to c.args.spare) c.cell.ensures.cell)) in
    done c.join.result c.args.self.now c.join.new.self c.deref.result.now (copy_code h c.args.from c.args.to c.args.spare) c.args.spare c.join.ensures.ok e
    (adds_of c.args.self.now (copy_code h c.args.from c.args.to c.args.spare) c.args.spare any (λ input s. copied s c.args.from c.args.to c.args.spare) (2 ^ 21) 4096 (simp (length-append, length-many) (omega arith)) (balanced_copy h c.args.from c.args.to c.args.spare) (λ input s is_input kind. does_copy input h c.args.from c.args.to c.args.spare s lh c.requires.from c.requires.to c.requires.spare c.requires.apart c.requires.from_spare c.requires.to_spare))
