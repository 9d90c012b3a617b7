use Rattle.std.proofs.Common.{◌≤◌, ◌^◌, arith}
use Rattle.std.proofs.lemmas.Result.{err_from_is_err_and}
use Rattle.mach_core.specs.Outside.{Rose}
use Rattle.eir_core.specs.Eir.{size_of}
use Rattle.ws_back.proofs.Handed.{rises_after}
use Rattle.ws_back.proofs.Emitted.{answers_stopped, answers_all, answers_unflushed}
use Rattle.ws_back.proofs.back.emit_code.Goals as goal

pub returns-in_err-put_code-clause-answers : goal.returns-in_err-put_code-clause-answers
returns-in_err-put_code-clause-answers g c =
    let small : size_of c.args.p.now ≤ 2 ^ 17 = omega (arith, c.size-size.ensures.size) in
    answers_stopped c.args.p.now (g.O.Sink.got c.args.out.now) (g.O.Sink.got c.put_code.new.out) (Rose (g.O.Sink.faults c.args.out.now) (g.O.Sink.faults c.put_code.new.out)) c.new-put.result c.put_code.new.put c.in_err-put_code.field-0.0
    c.from_residual.result c.size-size.ensures.sound small c.new-put.ensures (err_from_is_err_and c.from_residual.result c.from_residual.ensures.1) c.in_err-put_code.ensures.handed

pub returns-in-Ok-clause-answers : goal.returns-in-Ok-clause-answers
returns-in-Ok-clause-answers g c =
    let small : size_of c.args.p.now ≤ 2 ^ 17 = omega (arith, c.size-size.ensures.size) in
    answers_all c.args.p.now (g.O.Sink.got c.args.out.now) (g.O.Sink.got c.put_code.new.out) (g.O.Sink.got c.flush.new.out) (Rose (g.O.Sink.faults c.args.out.now) (g.O.Sink.faults c.flush.new.out)) c.new-put.result c.put_code.new.put
    c.size-size.ensures.sound small c.new-put.ensures c.in_ok-put_code.ensures.handed c.in-Ok.ensures.ok

pub returns-in-Err-clause-answers : goal.returns-in-Err-clause-answers
returns-in-Err-clause-answers g c =
    let small : size_of c.args.p.now ≤ 2 ^ 17 = omega (arith, c.size-size.ensures.size) in
    answers_unflushed c.args.p.now (g.O.Sink.got c.args.out.now) (g.O.Sink.got c.put_code.new.out) (g.O.Sink.got c.flush.new.out) (Rose (g.O.Sink.faults c.args.out.now) (g.O.Sink.faults c.flush.new.out)) c.new-put.result c.put_code.new.put
    c.size-size.ensures.sound small c.new-put.ensures (rises_after _ _ _ c.in_ok-put_code.ensures.later c.in-Err.ensures.cause.failed) c.in_ok-put_code.ensures.handed c.in-Err.ensures.err
