use Rattle.bf_columns.proofs.Dealt.{split_divides}
use Rattle.bf_columns.proofs.laws.split_divides_by_four.Goals as goal

pub returns : goal.returns
returns c = split_divides
