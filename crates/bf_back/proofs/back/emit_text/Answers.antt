use Rattle.std.proofs.Common.{◌≤◌, ◌^◌, ap, arith}
use Rattle.eir_core.specs.Eir.{size_of}
use Rattle.bf_lang.specs.Laws.{text_of}
use Rattle.mach_core.specs.Outside.{Rose}
use Rattle.bf_back.proofs.Emitted.{no_memory, no_text}
use Rattle.bf_back.proofs.back.emit_text.Goals as goal

pub returns-in-Ok-write_text-clause-answers : goal.returns-in-Ok-write_text-clause-answers
returns-in-Ok-write_text-clause-answers g c =
    let small : size_of c.args.p.now ≤ 2 ^ 14 = omega (arith, c.size-size.ensures.size) in (small, (text_of c.in-Ok.code.commands, c.in-Ok-write_text.ensures.text, (c.in-Ok.code.commands, c.in-Ok.ensures.stands)))

pub returns-in_default-clause-answers : goal.returns-in_default-clause-answers
returns-in_default-clause-answers g c =
    let small : size_of c.args.p.now ≤ 2 ^ 14 = omega (arith, c.size-size.ensures.size) in
    no_memory c.args.p.now (Rose (g.O.Sink.faults c.args.out.now) (g.O.Sink.faults c.args.out.now)) (g.O.Sink.got c.args.out.now) c.size-size.ensures.sound small

pub returns-in-Ok-write_text-clause-exact : goal.returns-in-Ok-write_text-clause-exact
returns-in-Ok-write_text-clause-exact g c =
    let small : size_of c.args.p.now ≤ 2 ^ 14 = omega (arith, c.size-size.ensures.size) in (small, (text_of c.in-Ok.code.commands, c.in-Ok-write_text.ensures.text, ap (λ code. text_of code) c.in-Ok.ensures.code))

pub returns-in_default-clause-exact : goal.returns-in_default-clause-exact
returns-in_default-clause-exact g c =
    let small : size_of c.args.p.now ≤ 2 ^ 14 = omega (arith, c.size-size.ensures.size) in
    no_text c.args.p.now (Rose (g.O.Sink.faults c.args.out.now) (g.O.Sink.faults c.args.out.now)) (g.O.Sink.got c.args.out.now) small
