use Rattle.std.proofs.Common.{refl}
use Rattle.c_conditions.proofs.LabelLemmas.{default_more}
use Rattle.c_conditions.proofs.labels.Labels.add_default.Goals as goal

pub returns : goal.returns
returns c = λ ls h. default_more c.args.self.now _ ls c.args.at c.broken-own.result h c.broken-own.ensures c.merged-self.ensures refl refl
