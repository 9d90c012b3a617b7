use Rattle.c_landing.proofs.Directly.{directs, knowns}
use Rattle.c_landing.proofs.Pieces.{direct_lands}
use Rattle.c_landing.proofs.laws.direct_values_are_there.Goals as goal

pub returns : goal.returns
returns c = record {
  value = λ S w e here i o v agrees few ls is. directs S w agrees e here i o few ls v is;
  place = λ S w e here i o l agrees few ls is. knowns S w agrees e here i o few ls l is;
  loaded = direct_lands;
}
