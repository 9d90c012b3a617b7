use Rattle.std.proofs.Common.{◌≡◌, ◌≢◌, ◌+◌, ◌<◌, ◌≤◌, ◌++◌, ◌^◌, ap, sym, subst, ◌∙◌, arith, length-append}
use Rattle.bf_lang.specs.Balance.{IsBalanced}
use Rattle.bf_tape.specs.Code.{dup_code}
use Rattle.bf_tape.specs.Tape.{get}
use Rattle.bf_tape.specs.Piece.{doubled}
use Rattle.bf_tape.proofs.Pieces.{balanced_dup, does_dup}
use Rattle.bf_tape.proofs.Added.{adds_of, code_done, done, length-many}
use Rattle.bf_tape.proofs.frag.Frag.dup.Goals as goal

pub join-requires-clause-balanced : goal.join-requires-clause-balanced
join-requires-clause-balanced c =
    let e = c.deref.ensures.value ∙ (c.in_ok-put_dup.ensures ∙ (ap (λ xs. xs ++ dup_code c.cell.result c.args.from c.args.to c.args.spare) c.new-code.ensures.items ∙ ap (λ h. dup_code h c.args.from c.args.to c.args.spare) c.cell.ensures.cell)) in
    subst (λ xs. IsBalanced xs) (sym e) (balanced_dup c.args.self.now.cell c.args.from c.args.to c.args.spare)

pub returns-clause-code : goal.returns-clause-code
returns-clause-code c =
    let e = c.deref.ensures.value ∙ (c.in_ok-put_dup.ensures ∙ (ap (λ xs. xs ++ dup_code c.cell.result c.args.from c.args.to c.args.spare) c.new-code.ensures.items ∙ ap (λ h. dup_code h c.args.from c.args.to c.args.spare) c.cell.ensures.cell)) in
    code_done c.join.result c.args.self.now c.join.new.self c.deref.result.now (dup_code c.args.self.now.cell c.args.from c.args.to c.args.spare) c.args.spare c.join.ensures.ok e

pub returns-clause-effect : goal.returns-clause-effect
returns-clause-effect c =
    let h = c.args.self.now.cell in
    let lh : h < 256 = subst (λ k. k < 256) c.cell.ensures.cell c.cell.ensures.below in
    let e = c.deref.ensures.value ∙ (c.in_ok-put_dup.ensures ∙ (ap (λ xs. xs ++ dup_code c.cell.result c.args.from c.args.to c.args.spare) c.new-code.ensures.items ∙ ap (λ h. dup_code h c.args.from c.args.to c.args.spare) c.cell.ensures.cell)) in
    done c.join.result c.args.self.now c.join.new.self c.deref.result.now (dup_code h c.args.from c.args.to c.args.spare) c.args.spare c.join.ensures.ok e
    (adds_of c.args.self.now (dup_code h c.args.from c.args.to c.args.spare) c.args.spare (λ s. get s c.args.spare ≡ 0) (λ input s. doubled s c.args.from c.args.to) (2 ^ 20) 2048 (simp (length-append, length-many) (omega arith)) (balanced_dup h c.args.from c.args.to c.args.spare) (λ input s is_input kind. does_dup input h c.args.from c.args.to c.args.spare s lh c.requires.from c.requires.to c.requires.spare c.requires.apart c.requires.from_spare c.requires.to_spare kind))
