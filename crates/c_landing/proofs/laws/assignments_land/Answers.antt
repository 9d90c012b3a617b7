use Rattle.c_landing.proofs.Stores.{assigned_lands}
use Rattle.c_landing.proofs.Updates.{updated_lands, stepped_lands}
use Rattle.c_landing.proofs.laws.assignments_land.Goals as goal
use Rattle.std.specs.Prelude.{suc}

pub returns : goal.returns
returns c = λ S w t block d n cp cv l place rp agrees hp kl. record {
  plain = λ v value rv h1 h2 kv. assigned_lands S w agrees t block d n cp cv l v place value rp rv hp h1 h2 kl kv;
  compound = λ tags op u v value rv few nt nu h1 h2 kv. updated_lands S w agrees tags op t u block d n cp cv l v place value rp rv few nt nu hp h1 h2 kl kv;
  step = λ tags op nt. stepped_lands S w agrees tags op t block d (suc n) cp l place rp nt hp kl;
}
