use Rattle.std.proofs.Common.{ap, inr}
use Rattle.c_plain.specs.declared.code.Plain.{Plain}
use Rattle.c_plain.specs.Program.{program_of}
use Rattle.c_plain.specs.Rule.{plain_rule, plain_start}
use Rattle.c_run.proofs.Texts.{answers_at, machine_unbegun, text_answers, text_unbegun}
use Rattle.c_run.proofs.run.run_plain.Goals as goal

pub returns-in-Ok-clause-ruled : goal.returns-in-Ok-clause-ruled
returns-in-Ok-clause-ruled g c = answers_at _ _ _ _ (ap (λ (q : Plain). plain_rule q) c.in-Ok.ensures.program) c.in-Ok.ensures.config c.run.result _ _ c.run.ensures.answers

pub returns-in-Err-clause-ruled : goal.returns-in-Err-clause-ruled
returns-in-Err-clause-ruled g c = inr (_, _, _, machine_unbegun (plain_rule c.args.plain.now) (plain_start c.args.plain.now c.args.fuel) (g.I.Source.left c.args.input.now) (g.O.Sink.got c.args.out.now))

pub returns-in-Ok-clause-answers : goal.returns-in-Ok-clause-answers
returns-in-Ok-clause-answers g c = λ names u is.
    text_answers names (program_of c.args.plain.now) u c.args.fuel is _ _ (ap (λ (q : Plain). plain_rule q) c.in-Ok.ensures.program) c.in-Ok.ensures.config c.run.result _ _ c.run.ensures.answers

pub returns-in-Err-clause-answers : goal.returns-in-Err-clause-answers
returns-in-Err-clause-answers g c = λ names u is. text_unbegun u c.args.fuel (g.I.Source.left c.args.input.now) (g.O.Sink.got c.args.out.now)
