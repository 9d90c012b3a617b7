use Rattle.std.proofs.Common.{◌≤◌, ◌^◌, arith}
use Rattle.mach_core.specs.Outside.{Rose}
use Rattle.eir_core.specs.Eir.{size_of}
use Rattle.wasm_back.proofs.Emitted.{bytes_few, answers_all, answers_front, answers_none}
use Rattle.wasm_back.proofs.back.emit_module.Goals as goal

pub returns-in_default-clause-answers : goal.returns-in_default-clause-answers
returns-in_default-clause-answers g c =
    let small : size_of c.args.p.now ≤ 2 ^ 16 = omega (arith, c.size-size.ensures.size) in
    answers_none c.args.p.now (g.O.Sink.got c.args.out.now) (Rose (g.O.Sink.faults c.args.out.now) (g.O.Sink.faults c.args.out.now)) c.size-size.ensures.sound small

pub write_module-requires : goal.write_module-requires
write_module-requires g c =
    let small : size_of c.args.p.now ≤ 2 ^ 16 = omega (arith, c.size-size.ensures.size) in
    bytes_few c.args.p.now c.in-Ok.m c.size-size.ensures.sound small c.in-Ok.ensures

pub returns-in-Ok-write_module-clause-answers : goal.returns-in-Ok-write_module-clause-answers
returns-in-Ok-write_module-clause-answers g c =
    let small : size_of c.args.p.now ≤ 2 ^ 16 = omega (arith, c.size-size.ensures.size) in
    answers_all c.args.p.now (g.O.Sink.got c.args.out.now) (g.O.Sink.got c.write_module.new.out) (Rose (g.O.Sink.faults c.args.out.now) (g.O.Sink.faults c.write_module.new.out)) c.in-Ok.m c.size-size.ensures.sound small c.in-Ok.ensures c.in-Ok-write_module.ensures.bytes

pub returns-clause-answers : goal.returns-clause-answers
returns-clause-answers g c =
    let small : size_of c.args.p.now ≤ 2 ^ 16 = omega (arith, c.size-size.ensures.size) in
    answers_front c.args.p.now (g.O.Sink.got c.args.out.now) (g.O.Sink.got c.write_module.new.out) (Rose (g.O.Sink.faults c.args.out.now) (g.O.Sink.faults c.write_module.new.out)) c.in-Ok.m c.size-size.ensures.sound small c.in-Ok.ensures c.in-Err.ensures.cause.failed c.in-Err.ensures.prefix
