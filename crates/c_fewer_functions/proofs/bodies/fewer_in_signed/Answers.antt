use Rattle.std.proofs.Common.{refl}
use Rattle.c_types.specs.Units.{body_scope}
use Rattle.c_signatures.proofs.BlockLemmas.{body_then, body_may_end}
use Rattle.c_fewer_functions.proofs.BodyLemmas.{stays_behind}
use Rattle.c_fewer_functions.proofs.bodies.fewer_in_signed.Goals as goal

pub fewer_in_body-requires : goal.fewer_in_body-requires
fewer_in_body-requires c =
    let q = c.requires in
    (body_scope q.0 c.args.name.now q.1, record { holds = c.in_ok-mark.ensures.holds q.0 q.1 q.2.holds q.3; names = q.2.names })

pub leave_body-requires : goal.leave_body-requires
leave_body-requires c =
    let d0 = c.args.here.now.declared in
    let d2 = c.fewer_in_body.new.here.declared in
    body_may_end d0 d2 c.in_ok-mark.mark (body_then d0 c.enter_body.new.declared d2 c.in_ok-mark.ensures.inside c.in_ok-tree.ensures.goes.around) c.in_ok-mark.ensures.mark

pub returns-clause-tree : goal.returns-clause-tree
returns-clause-tree c = λ s g stands is.
    c.in_ok-tree.ensures.tree (body_scope s c.args.name.now g) (record { holds = c.in_ok-mark.ensures.holds s g stands.holds is; names = stands.names })

pub returns-clause-stays : goal.returns-clause-stays
returns-clause-stays c =
    stays_behind c.args.here.now c.leave_body.new.declared c.in_ok-tree.ensures.goes refl c.in_ok-mark.ensures.inside (λ i. c.in_ok-leave_body.ensures c.args.here.now.declared i c.in_ok-mark.ensures.mark)
