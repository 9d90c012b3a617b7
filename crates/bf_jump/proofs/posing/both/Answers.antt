use Rattle.bf_word.proofs.Chain.{adds_aside}
use Rattle.bf_word.proofs.Codes.{first_code, next_code, aside_code}
use Rattle.bf_ops.specs.OpsCode.{bring_code, bring_cell}
use Rattle.bf_jump.specs.Pose.{both_code}
use Rattle.bf_jump.proofs.Asked.{first_aside, second_aside, both_adds}
use Rattle.bf_jump.proofs.posing.both.Goals as goal

pub returns-clause-effect : goal.returns-clause-effect
returns-clause-effect c =
    adds_aside c.append.result c.args.f.now c.append.new.f c.append.ensures.ok c.aside-piece.ensures.piece (both_adds c.args.first c.args.second c.in_ok-bring.ensures.effect c.in_ok-bring-2.ensures.effect)

pub returns-clause-code : goal.returns-clause-code
returns-clause-code c =
    let h = c.args.f.now.cell in
    aside_code c.append.result c.args.f.now c.append.new.f (both_code h c.args.first c.args.second) (bring_cell c.args.second 97) c.append.ensures.ok
    (next_code (bring_cell c.args.first 87) (bring_cell c.args.second 97) (bring_code h c.args.first 87) (λ k. bring_code k c.args.second 97)
    (first_code h (bring_cell c.args.first 87) (λ k. bring_code k c.args.first 87) c.aside-piece.ensures.piece c.in_ok-bring.ensures.code) c.in_ok-bring-2.ensures.code)

pub bring-requires-clause-aside : goal.bring-requires-clause-aside
bring-requires-clause-aside c = first_aside

pub bring-requires-2-clause-aside : goal.bring-requires-2-clause-aside
bring-requires-2-clause-aside c = second_aside
