use Rattle.bf_word.proofs.Chain.{adds_aside}
use Rattle.bf_ops.proofs.Acts.{aside_beyond, ask_load}
use Rattle.std.proofs.Common.{arith, ◌+◌, ◌++◌, ap, ◌∙◌}
use Rattle.bf_tape.specs.Code.{add_code}
use Rattle.bf_tape.specs.Piece.{joined}
use Rattle.bf_ops.specs.Ask.{flag_of}
use Rattle.bf_ops.specs.OpsCode.{bring_code, bring_cell, ask_load_code}
use Rattle.bf_word.proofs.Codes.{first_code, next_code, aside_code}
use Rattle.bf_ops.proofs.transfer.load.Goals as goal

pub returns-clause-effect : goal.returns-clause-effect
returns-clause-effect c =
    adds_aside c.append.result c.args.f.now c.append.new.f c.append.ensures.ok c.aside-piece.ensures.piece
    (ask_load c.args.reg c.args.operand c.cell_of-cell.result c.cell_of-cell.ensures.cell c.in_ok-bring.ensures.effect c.in_ok-add_const.ensures.effect c.in_ok-add_const-2.ensures.effect)

pub returns-clause-code : goal.returns-clause-code
returns-clause-code c =
    aside_code c.append.result c.args.f.now c.append.new.f (ask_load_code c.args.f.now.cell c.args.reg c.args.operand) 46 c.append.ensures.ok
    (next_code (flag_of c.args.reg) 46 (bring_code c.args.f.now.cell c.args.operand 107 ++ add_code (bring_cell c.args.operand 107) (flag_of c.args.reg) 1) (λ k. add_code k 46 1)
    (next_code (bring_cell c.args.operand 107) (flag_of c.args.reg) (bring_code c.args.f.now.cell c.args.operand 107) (λ k. add_code k (flag_of c.args.reg) 1)
    (first_code c.args.f.now.cell (bring_cell c.args.operand 107) (λ k. bring_code k c.args.operand 107) c.aside-piece.ensures.piece c.in_ok-bring.ensures.code)
    (c.in_ok-add_const.ensures.code ∙ ap (λ w. joined c.bring.new.f (add_code c.bring.new.f.cell (w + 6) 1) (w + 6)) c.cell_of-cell.ensures.cell))
    c.in_ok-add_const-2.ensures.code)

pub bring-requires-clause-aside : goal.bring-requires-clause-aside
bring-requires-clause-aside c = aside_beyond 107 (omega arith)
