use Rattle.c_types.specs.Typed.{plain_of}
use Rattle.c_run.proofs.Texts.{text_unbegun}
use Rattle.c_flat.proofs.run.run_c.Goals as goal

pub returns-in-Ok-clause-answers : goal.returns-in-Ok-clause-answers
returns-in-Ok-clause-answers g c = c.run_plain.ensures.answers c.in-Ok.ensures.0 (plain_of c.args.typed.now) c.in-Ok.ensures.1

pub returns-in-Err-clause-answers : goal.returns-in-Err-clause-answers
returns-in-Err-clause-answers g c = text_unbegun (plain_of c.args.typed.now) c.args.fuel (g.I.Source.left c.args.input.now) (g.O.Sink.got c.args.out.now)
