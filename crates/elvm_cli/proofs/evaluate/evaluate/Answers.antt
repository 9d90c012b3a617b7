use Rattle.std.proofs.Common.{sym, subst}
use Rattle.c_types.specs.Typed.{plain_of}
use Rattle.elvm_cli.specs.Seen.{on_sink, on_source}
use Rattle.elvm_cli.specs.Shows.{FueledShows}
use Rattle.elvm_cli.specs.Sources.{c_runs}
use Rattle.elvm_cli.proofs.Evaluated.{evaluated}
use Rattle.elvm_cli.proofs.evaluate.evaluate.Goals as goal

pub returns : goal.returns
returns g c =
    let i = g.I.Source in
    let o = g.O.Sink in
    let a = c.args.input.now in
    let b = c.run_c-answer.new.input in
    let x = c.args.out.now in
    let y = c.run_c-answer.new.out in
    subst (FueledShows (c_runs (plain_of c.args.typed.now)) c.args.fuel (on_source (i.faults a) (i.faults b) (i.left a) (i.left b)) (on_sink (o.faults x) (o.faults y) (o.got x) (o.got y))) (sym c.outcome_of.ensures)
    (evaluated (plain_of c.args.typed.now) c.args.fuel c.run_c-answer.result _ _ c.run_c-answer.ensures.answers)
