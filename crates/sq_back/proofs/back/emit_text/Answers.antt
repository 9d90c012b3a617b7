use Rattle.std.proofs.Common.{◌≤◌, ◌^◌, arith}
use Rattle.mach_core.specs.Outside.{Rose}
use Rattle.eir_core.specs.Eir.{size_of}
use Rattle.sq_back.proofs.Emitted.{answers_all, answers_front}
use Rattle.sq_back.proofs.Operations.{follows_op}
use Rattle.sq_back.proofs.Simulation.{simulates, is_sharp}
use Rattle.sq_back.proofs.back.emit_text.Goals as goal

pub returns-in-Ok-clause-answers : goal.returns-in-Ok-clause-answers
returns-in-Ok-clause-answers g c =
    let small : size_of c.args.p.now ≤ 2 ^ 16 = omega (arith, c.size-size.ensures.size) in
    answers_all c.args.p.now (g.O.Sink.got c.args.out.now) (g.O.Sink.got c.write_text.new.out) (Rose (g.O.Sink.faults c.args.out.now) (g.O.Sink.faults c.write_text.new.out)) (simulates follows_op) (is_sharp follows_op) c.size-size.ensures.sound small c.in-Ok.ensures.text

pub returns-in-Err-clause-answers : goal.returns-in-Err-clause-answers
returns-in-Err-clause-answers g c =
    let small : size_of c.args.p.now ≤ 2 ^ 16 = omega (arith, c.size-size.ensures.size) in
    answers_front c.args.p.now (g.O.Sink.got c.args.out.now) (g.O.Sink.got c.write_text.new.out) (Rose (g.O.Sink.faults c.args.out.now) (g.O.Sink.faults c.write_text.new.out)) (simulates follows_op) (is_sharp follows_op) c.size-size.ensures.sound small c.in-Err.ensures.cause.failed c.in-Err.ensures.prefix
