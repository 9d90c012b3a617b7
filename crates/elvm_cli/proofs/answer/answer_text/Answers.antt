use Rattle.elvm_cli.specs.Seen.{on_source}
use Rattle.elvm_cli.proofs.answer.answer_text.Goals as goal

pub returns-in-Emit-clause-shows : goal.returns-in-Emit-clause-shows
returns-in-Emit-clause-shows g c =
    let i = c.args.input.now in
    rw c.in-Emit.is (c.emit_in.ensures c.in-Emit.file.now (on_source (g.I.Source.faults i) (g.I.Source.faults i) (g.I.Source.left i) (g.I.Source.left i)))

pub returns-in-Run-clause-shows : goal.returns-in-Run-clause-shows
returns-in-Run-clause-shows g c = rw c.in-Run.is (c.run_in.ensures.shows c.in-Run.file.now)

pub returns-in-Build-clause-shows : goal.returns-in-Build-clause-shows
returns-in-Build-clause-shows g c =
    let i = c.args.input.now in
    rw c.in-Build.is (c.build_in.ensures c.in-Build.file.now (on_source (g.I.Source.faults i) (g.I.Source.faults i) (g.I.Source.left i) (g.I.Source.left i)))
