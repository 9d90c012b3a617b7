use Rattle.std.proofs.Common.{◌≡◌, ◌-◌, length, refl, arith}
use Rattle.c_syntax.specs.View.{stmt_of}
use Rattle.c_types.specs.Units.{body_scope}
use Rattle.c_signatures.proofs.BlockLemmas.{body_then, body_may_end, same_holds}
use Rattle.c_lower.specs.Functions.{defined}
use Rattle.c_lower.specs.declared.bodies.Body.{Body}
use Rattle.c_lower.specs.declared.bodies.Bodies.{Bodies}
use Rattle.c_lower.proofs.BodyLemmas.{one_body}
use Rattle.c_lower.proofs.bodies.add_signed.Goals as goal

pub statement_literals-requires : goal.statement_literals-requires
statement_literals-requires c = let h = c.requires in (body_scope h.0 c.args.name.now h.1, c.in_ok-mark.ensures.holds h.0 h.1 h.2 h.3)

pub leave_body-requires : goal.leave_body-requires
leave_body-requires c =
    let d0 = c.args.declared.now in
    let d2 = c.statement_literals.new.declared in
    body_may_end d0 d2 c.in_ok-mark.mark (body_then d0 c.enter_body.new.declared d2 c.in_ok-mark.ensures.inside c.in_ok-statement_literals.ensures.around) c.in_ok-mark.ensures.mark

pub returns-clause-holds : goal.returns-clause-holds
returns-clause-holds c = λ s holds.
    let d0 = c.args.declared.now in
    let d2 = c.statement_literals.new.declared in
    let k = c.in_ok-statement_literals.ensures in
    let same = c.in_ok-leave_body.ensures d0 (body_then d0 c.enter_body.new.declared d2 c.in_ok-mark.ensures.inside k.around) c.in_ok-mark.ensures.mark in
    same_holds c.args.types.now c.statement_literals.new.types d0 c.leave_body.new.declared s k.grows k.tags same holds

pub returns-clause-adds : goal.returns-clause-adds
returns-clause-adds c = λ s g params holds is.
    let a = c.args.bodies.now in
    let name = c.args.name.now in
    let own : Body = record { name = c.args.name; count = c.saturating_sub-count.result } in
    let b : Bodies = record { each = c.push.new.self; literals = c.statement_literals.new.texts } in
    let before : c.len-before.result ≡ length a.literals.items = omega arith in
    let count : c.saturating_sub-count.result ≡ length b.literals.items - c.len-before.result = omega arith in
    one_body a b (defined s name params (stmt_of c.args.body.now) g) own c.len-before.result c.in_ok-push.ensures.items refl before count
    (c.in_ok-statement_literals.ensures.adds (body_scope s name g) (c.in_ok-mark.ensures.holds s g holds is)).behind

pub returns-clause-tags : goal.returns-clause-tags
returns-clause-tags c = c.in_ok-statement_literals.ensures.tags
