use Rattle.std.proofs.Common.{◌+◌, ◌-◌, ap, subst, sym, ◌∙◌}
use Rattle.bf_tape.specs.Piece.{joined}
use Rattle.bf_word.specs.WordCode.{lower_code}
use Rattle.bf_word.proofs.Chain.{adds_aside}
use Rattle.bf_word.proofs.Codes.{first_code, next_code, aside_code}
use Rattle.bf_ops.specs.Frame.{cell_of, before, IsAside}
use Rattle.bf_ops.specs.OpsCode.{bring_code, bring_cell, take_code}
use Rattle.bf_ops.proofs.Acts.{take_adds, aside_before}
use Rattle.bf_ops.proofs.arithmetic.take.Goals as goal

pub returns-clause-effect : goal.returns-clause-effect
returns-clause-effect c =
    adds_aside c.append.result c.args.f.now c.append.new.f c.append.ensures.ok c.aside-piece.ensures.piece
    (take_adds c.args.reg c.args.operand c.cell_of-cell.result c.cell_of-cell.ensures.cell c.in_ok-bring.ensures.effect c.in_ok-lower_by.ensures.effect)

pub returns-clause-code : goal.returns-clause-code
returns-clause-code c =
    let g = before c.args.reg in
    aside_code c.append.result c.args.f.now c.append.new.f (take_code c.args.f.now.cell c.args.reg c.args.operand) (g + 2) c.append.ensures.ok
    (next_code (bring_cell c.args.operand g) (g + 2) (bring_code c.args.f.now.cell c.args.operand g) (λ k. lower_code k (cell_of c.args.reg) g)
    (first_code c.args.f.now.cell (bring_cell c.args.operand g) (λ k. bring_code k c.args.operand g) c.aside-piece.ensures.piece
    (c.in_ok-bring.ensures.code ∙ ap (λ w. joined c.aside-piece.result (bring_code c.aside-piece.result.cell c.args.operand (w - 3)) (bring_cell c.args.operand (w - 3))) c.cell_of-cell.ensures.cell))
    (c.in_ok-lower_by.ensures.code ∙ ap (λ w. joined c.bring.new.f (lower_code c.bring.new.f.cell w (w - 3)) (w - 3 + 2)) c.cell_of-cell.ensures.cell))

pub bring-requires-clause-aside : goal.bring-requires-clause-aside
bring-requires-clause-aside c = subst (λ w. IsAside (w - 3)) (sym c.cell_of-cell.ensures.cell) (aside_before c.args.reg)
