use Rattle.bf_word.proofs.Chain.{adds_aside}
use Rattle.bf_ops.proofs.Acts.{aside_beyond, ask_store, value_apart, spare_apart}
use Rattle.std.proofs.Common.{arith, ◌+◌, ◌<◌, ◌++◌, ap, subst, sym, ◌∙◌}
use Rattle.bf_tape.specs.Code.{add_code}
use Rattle.bf_tape.specs.Piece.{joined}
use Rattle.bf_word.specs.Word.{AreDistinct, IsOutside}
use Rattle.bf_word.specs.WordCode.{dup_word_code}
use Rattle.bf_ops.specs.Frame.{cell_of}
use Rattle.bf_ops.specs.OpsCode.{bring_code, bring_cell, ask_store_code}
use Rattle.bf_word.proofs.Codes.{first_code, next_code, aside_code}
use Rattle.bf_ops.proofs.transfer.store.Goals as goal

pub returns-clause-effect : goal.returns-clause-effect
returns-clause-effect c =
    adds_aside c.append.result c.args.f.now c.append.new.f c.append.ensures.ok c.aside-piece.ensures.piece
    (ask_store c.args.reg c.args.operand c.cell_of-cell.result c.cell_of-cell.ensures.cell (subst (λ n. n < 256) (sym (ap (λ p. p.cell) c.aside-piece.ensures.piece)) c.aside-piece.ensures.below) c.in_ok-bring.ensures.code c.in_ok-bring.ensures.effect c.in_ok-dup_word.ensures.code c.in_ok-add_const.ensures.effect)

pub returns-clause-code : goal.returns-clause-code
returns-clause-code c =
    aside_code c.append.result c.args.f.now c.append.new.f (ask_store_code c.args.f.now.cell c.args.reg c.args.operand) 47 c.append.ensures.ok
    (next_code (cell_of c.args.reg + 3) 47 (bring_code c.args.f.now.cell c.args.operand 107 ++ dup_word_code (bring_cell c.args.operand 107) (cell_of c.args.reg) 87 (cell_of c.args.reg + 3)) (λ k. add_code k 47 1)
    (next_code (bring_cell c.args.operand 107) (cell_of c.args.reg + 3) (bring_code c.args.f.now.cell c.args.operand 107) (λ k. dup_word_code k (cell_of c.args.reg) 87 (cell_of c.args.reg + 3))
    (first_code c.args.f.now.cell (bring_cell c.args.operand 107) (λ k. bring_code k c.args.operand 107) c.aside-piece.ensures.piece c.in_ok-bring.ensures.code)
    (c.in_ok-dup_word.ensures.code ∙ ap (λ w. joined c.bring.new.f (dup_word_code c.bring.new.f.cell w 87 (w + 3)) (w + 3)) c.cell_of-cell.ensures.cell))
    c.in_ok-add_const.ensures.code)

pub dup_word-requires-clause-distinct : goal.dup_word-requires-clause-distinct
dup_word-requires-clause-distinct c = subst (λ w. AreDistinct w 87) (sym c.cell_of-cell.ensures.cell) (value_apart c.args.reg)

pub dup_word-requires-clause-to_spare : goal.dup_word-requires-clause-to_spare
dup_word-requires-clause-to_spare c = subst (λ w. IsOutside (w + 3) 87) (sym c.cell_of-cell.ensures.cell) (spare_apart c.args.reg)

pub bring-requires-clause-aside : goal.bring-requires-clause-aside
bring-requires-clause-aside c = aside_beyond 107 (omega arith)
