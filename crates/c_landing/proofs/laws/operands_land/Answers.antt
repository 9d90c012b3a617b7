use Rattle.c_landing.proofs.Operands.{in_order_lands, turned_lands, waiting_lands}
use Rattle.c_landing.proofs.laws.operands_land.Goals as goal

pub returns : goal.returns
returns c = record {
  ordered = λ S a tail block d n ca ct v ra rb f la h g. in_order_lands f la h g;
  behind = λ S b tail block d n cb ct v ra rb f h turn lb g. turned_lands f h turn lb g;
  saved = λ S a b tail block d n ca cb ct ra rb f la lb g. waiting_lands f la lb g;
}
