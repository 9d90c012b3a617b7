use Rattle.bf_columns.proofs.AtRest.{acts_at_rest}
use Rattle.bf_columns.proofs.laws.words_act_at_rest.Goals as goal

pub returns : goal.returns
returns c = acts_at_rest
