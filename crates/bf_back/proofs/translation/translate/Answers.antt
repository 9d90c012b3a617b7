use Rattle.std.proofs.Common.{◌+◌, ◌*◌, ◌≤◌, length, sym, subst}
use Rattle.eir_core.specs.Eir.{size_of}
use Rattle.bf_lang.specs.Balance.{IsBalanced}
use Rattle.bf_tape.specs.Piece.{Piece}
use Rattle.bf_back.proofs.Coded.{whole_coded}
use Rattle.bf_back.proofs.Short.{whole_short}
use Rattle.bf_back.proofs.Translated.{whole_of, stands_for}
use Rattle.bf_back.proofs.translation.translate.Goals as goal

pub returns-clause-code : goal.returns-clause-code
returns-clause-code c = whole_coded c.in_ok-code.code c.args.p.now c.in_ok-body.body.commands c.in_ok-code.ensures.code c.in_ok-code.ensures.home c.in_ok-body.ensures.code c.in_ok-while_nonzero.ensures.code

pub returns-clause-short : goal.returns-clause-short
returns-clause-short c =
    subst (λ xs. length xs ≤ 4096 * (size_of c.args.p.now + 1)) (sym (whole_coded c.in_ok-code.code c.args.p.now c.in_ok-body.body.commands c.in_ok-code.ensures.code c.in_ok-code.ensures.home c.in_ok-body.ensures.code c.in_ok-while_nonzero.ensures.code)) (whole_short c.args.p.now c.requires)

pub returns-clause-whole : goal.returns-clause-whole
returns-clause-whole c =
    whole_of c.in_ok-body.body c.args.p.now c.requires c.in_ok-code.ensures.opens c.in_ok-code.ensures.home (subst (λ (q : Piece). IsBalanced q.commands) c.body.view_is c.body.invariant.balanced) c.in_ok-body.ensures.turn c.in_ok-while_nonzero.ensures.code

pub returns-clause-stands : goal.returns-clause-stands
returns-clause-stands c =
    stands_for c.args.p.now c.while_nonzero.new.self.commands c.in_ok-code.ensures.opens.sound c.requires
    (whole_of c.in_ok-body.body c.args.p.now c.requires c.in_ok-code.ensures.opens c.in_ok-code.ensures.home (subst (λ (q : Piece). IsBalanced q.commands) c.body.view_is c.body.invariant.balanced) c.in_ok-body.ensures.turn c.in_ok-while_nonzero.ensures.code)
