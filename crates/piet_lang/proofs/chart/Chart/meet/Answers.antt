use Rattle.piet_lang.proofs.ChartLemmas.{exit_inside}
use Rattle.piet_lang.proofs.chart.Chart.meet.Goals as goal

pub ahead-requires-clause-across : goal.ahead-requires-clause-across
ahead-requires-clause-across c = (exit_inside c.self.inside.image c.args.self.now c.args.stand c.exit-exit.result c.self.view_is c.requires c.exit-exit.ensures).0

pub ahead-requires-clause-down : goal.ahead-requires-clause-down
ahead-requires-clause-down c = (exit_inside c.self.inside.image c.args.self.now c.args.stand c.exit-exit.result c.self.view_is c.requires c.exit-exit.ensures).1
