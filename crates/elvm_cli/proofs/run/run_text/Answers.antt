use Rattle.elvm_cli.proofs.Loaded.{loaded_shows}
use Rattle.elvm_cli.proofs.run.run_text.Goals as goal

pub returns-in-Ok-clause-shows : goal.returns-in-Ok-clause-shows
returns-in-Ok-clause-shows g c =
    let l = g.L.Language in
    let m = g.L.Machine in
    loaded_shows (l.spells c.args.codel) (l.refused c.args.codel) m.rule m.start c.args.steps _ _ c.args.text.now _ _ c.run.result c.in-Ok.ensures.loaded c.run.ensures
