use Rattle.c_landing.proofs.Tails.{operator_goes, used_goes, not_goes, minus_goes, plus_goes, pointer_to_goes, member_goes, fetched_goes, fetched_behind_goes}
use Rattle.c_landing.proofs.laws.operators_land.Goals as goal

pub returns : goal.returns
returns c = λ S w block d n agrees. record {
  binary = λ tags op t u first second pair o narrow. operator_goes S w agrees tags op t u first second block d n pair o narrow;
  denied = not_goes S w agrees block d n;
  less = minus_goes S w agrees block d n;
  same = plus_goes S w agrees block d n;
  given = used_goes S w agrees block d n;
  pointer = pointer_to_goes S w agrees block d n;
  member = λ k. member_goes S w agrees k block d n;
  held = λ t o. fetched_goes S w agrees t block d n o;
  pointed = λ t. fetched_behind_goes S w agrees t block d n;
}
